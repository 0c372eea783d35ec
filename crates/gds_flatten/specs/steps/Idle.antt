-- Shapes without parts, and links to cells that draw nothing on the layers.
use Rattle.std.specs.Prelude.{◌≡◌, ℕ, Bool, true, false, List, [], ◌∷◌, filter, slice_get, nat_lt, is_some, All}
use Rattle.gds_grammar.specs.Values.{Shape as Element}
use Rattle.gds_shape.specs.declared.bounds.Bounds.{Bounds}
use Rattle.gds_cells.specs.declared.cell.Cell.{Cell}
use Rattle.gds_cells.specs.declared.link.Link.{Link}
use Rattle.gds_cells.specs.declared.shape.Shape.{Shape}
use Rattle.gds_cells.specs.Copies.{Copy}
use Rattle.gds_cells.specs.Graphs.{item}
use Rattle.gds_cells.specs.Shapes.{parts_of}
use Rattle.gds_cells.specs.steps.Filled.{extent_in}
use Rattle.gds_cells.specs.steps.Walks.{own_in, shapes_in}

-- the cell that it refers to draws, by its count
abbrev pub is_busy : List ℕ → Link → Bool
is_busy counts l = nat_lt 0 (item counts l.cell)

-- the cell has the same shapes, and of its links those to cells that draw
pub record IsBusy (counts : List ℕ) (old new : Cell) : Type 0 where
  pub shapes : new.shapes ≡ old.shapes
  pub links : new.links.items ≡ filter (is_busy counts) old.links.items

-- the shape has an extent
abbrev pub is_drawn : Shape → Bool
is_drawn s = is_some (extent_in s.filled)

-- the cell has the same links, and of its shapes those with an extent
pub record IsFilled (old new : Cell) : Type 0 where
  pub shapes : shapes_in new ≡ filter is_drawn (shapes_in old)
  pub links : new.links ≡ old.links

abbrev pub are_some : List Bounds → Bool
are_some [] = false
are_some (b ∷ bs) = true

-- the shape has parts: one without covers nothing, and goes nowhere
abbrev pub has_parts : Element → Bool
has_parts e = are_some (parts_of e)

abbrev pub is_full : Copy → Bool
is_full c = has_parts c.element

-- all shapes have parts
abbrev pub AreFull : List Cell → Type 0
AreFull cells = (c : ℕ) → All (λ e. has_parts e ≡ true) (own_in (slice_get cells c))
