-- The walk from copy to copy.
use Rattle.std.specs.Prelude.{◌≡◌, ◌⊎◌, ℕ, ◌*◌, ℤ, ◌||◌, List, [], ◌∷◌, ◌++◌, map, take, drop, slice_get, Option, Some, None}
use Rattle.std.specs.List.{flat_map, range_with_len}
use Rattle.std.specs.Vec.{vec_items}
use Rattle.fill_base.specs.declared.rect.Rect.{Rect}
use Rattle.fill_region.specs.Squares.{covered}
use Rattle.gds_grammar.specs.Values.{shape_of, Shape as Element}
use Rattle.gds_cells.specs.declared.cell.Cell.{Cell}
use Rattle.gds_cells.specs.declared.error.FlattenError.{FlattenError}
use Rattle.gds_cells.specs.declared.error.FlattenError.TheVariants.{Memory, OutOfRange}
use Rattle.gds_cells.specs.declared.link.Link.{Link}
use Rattle.gds_cells.specs.declared.placement.Placement.{Placement}
use Rattle.gds_cells.specs.declared.shape.Shape.{Shape}
use Rattle.gds_cells.specs.Placements.{composed}
use Rattle.gds_cells.specs.Links.{single, singles}
use Rattle.gds_cells.specs.Copies.{Copy, Hierarchy, own_copy, carry_copy, copies, drawn, AllStayInRange}

-- the single references of a link, each with the index of its cell
abbrev pub singles_of : Link → List (ℕ × Placement)
singles_of l = map (λ p. (l.cell, p)) (singles l)

-- the shapes of all chunks of a cell
abbrev pub shapes_in : Cell → List Shape
shapes_in c = flat_map vec_items c.shapes.items

abbrev pub own_in : Option Cell → List Element
own_in (Some c) = map (λ s. shape_of s.element.now) (shapes_in c)
own_in None = []

abbrev pub singles_in : Option Cell → List (ℕ × Placement)
singles_in (Some c) = flat_map singles_of c.links.items
singles_in None = []

-- what the cells have, by index
abbrev pub hierarchy : List Cell → Hierarchy
hierarchy cells = record {
  own = λ c. own_in (slice_get cells c);
  singles = λ c. singles_in (slice_get cells c);
}

-- what a shape, a link, a cell draws, carried so, where cells draw `below`
abbrev pub shape_copies : Placement → Shape → List Copy
shape_copies at s = carry_copy at (own_copy (shape_of s.element.now)) ∷ []

abbrev pub single_copies : Placement → (ℕ → List Copy) → Link → ℕ → List Copy
single_copies at below l k = map (carry_copy (composed at (single l k))) (below l.cell)

abbrev pub link_copies : Placement → (ℕ → List Copy) → Link → List Copy
link_copies at below l = flat_map (single_copies at below l) (range_with_len 0 (l.columns * l.rows))

abbrev pub cell_copies : Placement → (ℕ → List Copy) → Option Cell → List Copy
cell_copies at below (Some c) =
    flat_map (shape_copies at) (shapes_in c) ++ flat_map (link_copies at below) c.links.items
cell_copies at below None = []

-- those of a list from one number up to another
abbrev pub part : {X : Type 0} → ℕ → ℕ → List X → List X
part from to xs = drop from (take to xs)

-- the copies were appended, and each stays in range
pub record IsDrawn (cs : List Copy) (old new : List Rect) : Type 0 where
  pub inside : AllStayInRange cs
  pub added : (x y : ℤ) → covered new x y ≡ (covered old x y || drawn cs x y)

-- why copies aren't carried: memory is refused, or one of them leaves the range
abbrev pub IsRefusal : List Copy → FlattenError → Type 0
IsRefusal cs e = (e ≡ Memory) ⊎ ((e ≡ OutOfRange) × (AllStayInRange cs → ⊥))

-- all that the top at an index draws
abbrev pub top_copies : List Cell → ℕ → List Copy
top_copies cells top = copies (hierarchy cells) 256 top
