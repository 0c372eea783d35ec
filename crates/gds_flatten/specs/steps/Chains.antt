-- Chains of single references from a cell down to another.
use Rattle.std.specs.Prelude.{◌≡◌, ℕ, ◌-◌, ◌≤◌, List, [], ◌∷◌, map}
use Rattle.gds_cells.specs.declared.cell.Cell.{Cell}
use Rattle.gds_cells.specs.declared.link.Link.{Link}
use Rattle.gds_cells.specs.declared.placement.Placement.{Placement}
use Rattle.gds_cells.specs.Copies.{carry_copy, copies}
use Rattle.gds_cells.specs.steps.Counting.{AreCounted}
use Rattle.gds_cells.specs.steps.Ranges.{IsWithin}
use Rattle.gds_cells.specs.steps.Walks.{hierarchy, shapes_in}

-- the cell has no shape and one reference, which is a single one
pub record HasOnly (c : Cell) (l : Link) : Type 0 where
  pub bare : shapes_in c ≡ []
  pub links : c.links.items ≡ l ∷ []
  pub columns : l.columns ≡ 1
  pub rows : l.rows ≡ 1

-- the cell at an index draws, by chains of so many cells, what another one draws by chains of fewer, placed so
pub record LeadsTo (cells : List Cell) (counts : List ℕ) (depth index below cell : ℕ) (p : Placement) : Type 0 where
  pub shorter : below ≤ depth
  pub near : IsWithin (depth - below) p
  pub same : copies (hierarchy cells) depth index ≡ map (carry_copy p) (copies (hierarchy cells) below cell)
  pub counted : AreCounted cells counts below cell
