-- The lists that vectors hold.
use Rattle.std.specs.Prelude.{ℕ, ◌+◌, ◌-◌, List, [], ◌∷◌, ◌++◌, map, length}
use Rattle.std.specs.List.{sum}
use Rattle.std.specs.Global.{Vec}
use Rattle.gds_cells.specs.declared.search.Search.{Search}
use Rattle.gds_cells.specs.Graphs.{Graph}
use Rattle.gds_cells.specs.steps.Searches.{State}

abbrev pub rows : List (Vec ℕ) → Graph
rows graph = map (λ v. v.items) graph

abbrev pub state_of : Search → State
state_of s = record {
  trail = s.trail.items;
  steps = s.steps.items;
  order = s.order.items;
  cyclic = s.cyclic;
}

-- how many steps a cell with these references takes
abbrev pub limit : List ℕ → ℕ
limit row = length row + 2

-- how many steps a search has left at most
abbrev pub left : Graph → State → ℕ
left g s = sum (map limit g ++ 2 ∷ []) - sum s.steps
