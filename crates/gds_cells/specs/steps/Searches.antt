-- A search in depth through the graph. Each cell has a count of steps: 0 for one that isn't found, 1
-- for one that was just opened, one more for each reference that was passed, and one more when it's
-- closed.
use Rattle.std.specs.Prelude.{◌≡◌, ℕ, suc, ◌+◌, ◌-◌, ◌<◌, ◌≤◌, List, [], ◌∷◌, ◌++◌, length, Bool, true, false, ◌||◌, take, replicate}
use Rattle.std.specs.List.{slice_set}
use Rattle.gds_cells.specs.Graphs.{Graph, next, item, IsChain, IsReached, IsCyclic}

pub record State : Type 0 where
  -- from the top down to the cell that's searched
  pub trail : List ℕ
  pub steps : List ℕ
  -- the closed cells, each behind all that it refers to
  pub order : List ℕ
  -- a reference to an open cell was passed
  pub cyclic : Bool

-- the top alone is found
abbrev pub begun : ℕ → ℕ → State
begun cells top = record {
  trail = top ∷ [];
  steps = slice_set (replicate (cells + 1) 0) top 1;
  order = [];
  cyclic = false;
}

abbrev pub opened : ℕ → State → State
opened c s = record {
  trail = s.trail ++ c ∷ [];
  steps = slice_set s.steps c 1;
  order = s.order;
  cyclic = s.cyclic;
}

abbrev pub passed : ℕ → Bool → State → State
passed c again s = record {
  trail = s.trail;
  steps = slice_set s.steps c (item s.steps c + 1);
  order = s.order;
  cyclic = s.cyclic || again;
}

abbrev pub closed : ℕ → State → State
closed c s = record {
  trail = take (length s.trail - 1) s.trail;
  steps = slice_set s.steps c (item s.steps c + 1);
  order = s.order ++ c ∷ [];
  cyclic = s.cyclic;
}

-- one of the list
abbrev pub IsIn : List ℕ → ℕ → Type 0
IsIn xs c = (p : ℕ) × (p < length xs) × (item xs p ≡ c)

abbrev pub IsOpen : Graph → List ℕ → ℕ → Type 0
IsOpen g steps c = (0 < item steps c) × (item steps c < length (next g c) + 2)

abbrev pub IsClosed : Graph → List ℕ → ℕ → Type 0
IsClosed g steps c = item steps c ≡ length (next g c) + 2

-- the reference at index k of the cell was passed
abbrev pub IsPassed : Graph → List ℕ → ℕ → ℕ → Type 0
IsPassed g steps c k = (k < length (next g c)) × (k + 1 < item steps c)

-- each cell stands behind all that it refers to
abbrev pub IsOrdered : Graph → List ℕ → Type 0
IsOrdered g order = (q k : ℕ) → q < length order → k < length (next g (item order q))
    → IsIn (take q order) (item (next g (item order q)) k)

pub record IsSearch (g : Graph) (top : ℕ) (s : State) : Type 0 where
  pub long : length s.steps ≡ length g + 1
  pub within : (c : ℕ) → item s.steps c ≤ length (next g c) + 2
  pub begins : 0 < item s.steps top
  pub found : (c : ℕ) → 0 < item s.steps c → IsReached g top c
  pub on_trail : (c : ℕ) → IsOpen g s.steps c → IsIn s.trail c
  pub trail : (p : ℕ) → p < length s.trail → IsOpen g s.steps (item s.trail p)
  pub apart : (p q : ℕ) → p < q → q < length s.trail → item s.trail p ≡ item s.trail q → ⊥
  pub along : (p q : ℕ) → p < q → q < length s.trail
      → (n : ℕ) × IsChain g (suc n) (item s.trail p) (item s.trail q)
  pub passed : (c k : ℕ) → IsPassed g s.steps c k → 0 < item s.steps (item (next g c) k)
  pub behind : s.cyclic ≡ false → (c k : ℕ) → IsPassed g s.steps c k
      → IsIn s.order (item (next g c) k)
  pub closed : (c : ℕ) → IsClosed g s.steps c → IsIn s.order c
  pub order : (q : ℕ) → q < length s.order → IsClosed g s.steps (item s.order q)
  pub ordered : s.cyclic ≡ false → IsOrdered g s.order
  pub cycle : s.cyclic ≡ true → IsCyclic g top
