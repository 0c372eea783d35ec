-- Numbers of copies, up to 4,000,001.
use Rattle.std.specs.Prelude.{◌≡◌, ℕ, zero, suc, ◌+◌, ◌*◌, ◌<◌, ◌≤◌, ◌⊎◌, List, [], map, length, slice_get, Option, Some, None, All}
use Rattle.std.specs.List.{sum_by}
use Rattle.gds_cells.specs.declared.cell.Cell.{Cell}
use Rattle.gds_cells.specs.declared.link.Link.{Link}
use Rattle.gds_cells.specs.Graphs.{Graph, next, item, IsDeep}
use Rattle.gds_cells.specs.Copies.{copies}
use Rattle.gds_cells.specs.steps.Walks.{hierarchy, shapes_in}

-- the count is the number, or 4,000,001 where the number is that or more
pub record IsCapped (number count : ℕ) : Type 0 where
  pub most : count ≤ 4000001
  pub exact : (count ≡ number) ⊎ ((count ≡ 4000001) × (4000001 ≤ number))

-- the copies of a cell, where the cells that it refers to have so many
abbrev pub counted : (ℕ → ℕ) → Cell → ℕ
counted f c = length (shapes_in c) + sum_by (λ l. (l.columns * l.rows) * f l.cell) c.links.items

-- the counts of the cells that the links refer to are right
abbrev pub AreRight : (ℕ → ℕ) → List ℕ → List Link → Type 0
AreRight f counts links = All (λ l. IsCapped (f l.cell) (item counts l.cell)) links

abbrev pub links_in : Option Cell → List Link
links_in (Some c) = c.links.items
links_in None = []

-- the cell refers to what the graph says
abbrev pub IsTied : Graph → List Cell → ℕ → Type 0
IsTied g cells c = (c < length cells) × (map (λ l. l.cell) (links_in (slice_get cells c)) ≡ next g c)

-- the count is that of all copies, through chains of any number of cells that no chain exceeds
abbrev pub IsCount : Graph → List Cell → ℕ → ℕ → Type 0
IsCount g cells c count = (n : ℕ) → (IsDeep g n c → ⊥) → IsCapped (length (copies (hierarchy cells) n c)) count

-- the count of a cell is that of its copies through chains of at most n cells, and so are those of all that it refers to
unfoldable pub AreCounted : List Cell → List ℕ → ℕ → ℕ → Type 0
AreCounted cells counts zero c = IsCapped 0 (item counts c)
AreCounted cells counts (suc n) c =
    IsCapped (length (copies (hierarchy cells) (suc n) c)) (item counts c)
    × All (λ l. AreCounted cells counts n l.cell) (links_in (slice_get cells c))
