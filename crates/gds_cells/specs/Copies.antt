-- Copies of shapes: those that a cell draws itself, and those that it draws through its references,
-- each carried as its references say.
use Rattle.std.specs.Prelude.{ℕ, zero, suc, ℤ, Bool, List, [], ◌++◌, map, All}
use Rattle.std.specs.List.{list_any, flat_map}
use Rattle.gds_grammar.specs.Values.{Shape as Element}
use Rattle.gds_cells.specs.declared.placement.Placement.{Placement}
use Rattle.gds_cells.specs.Placements.{carried, composed, still}
use Rattle.gds_cells.specs.Shapes.{covers_of, StaysInRange}

pub record Copy : Type 0 where
  pub placement : Placement
  pub element : Element

abbrev pub own_copy : Element → Copy
own_copy element = record { placement = still; element = element }

abbrev pub carry_copy : Placement → Copy → Copy
carry_copy p c = record { placement = composed p c.placement; element = c.element }

-- what cells have: shapes of the layers, and single references, each to a cell by its index
pub record Hierarchy : Type 0 where
  pub own : ℕ → List Element
  pub singles : ℕ → List (ℕ × Placement)

-- the copies that a cell draws, through chains of at most n cells
unfoldable pub copies : Hierarchy → ℕ → ℕ → List Copy
copies h zero c = []
copies h (suc n) c =
    map own_copy (h.own c) ++ flat_map (λ s. map (carry_copy s.1) (copies h n s.0)) (h.singles c)

abbrev pub copy_covers : Copy → ℤ → ℤ → Bool
copy_covers c x y = carried c.placement (covers_of c.element) x y

-- the squares that some copy covers
abbrev pub drawn : List Copy → ℤ → ℤ → Bool
drawn cs x y = list_any (λ c. copy_covers c x y) cs

-- each copy stays within the coordinates
abbrev pub AllStayInRange : List Copy → Type 0
AllStayInRange cs = All (λ c. StaysInRange c.placement c.element) cs
