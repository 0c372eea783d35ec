-- What a fill library says: the contents that its text spells.
use Rattle.std.specs.Prelude.{ℕ, ◌==◌, ℤ, pos, ◌+ℤ◌, ◌*ℤ◌, ◌&&◌, if◌then◌else◌, List, [], ◌∷◌, None}
use Rattle.std.specs.List.{flat_map}
use Rattle.fill_base.specs.declared.place.Point.{Point}
use Rattle.fill_raster.specs.Axes.{box_begin}
use Rattle.fill_raster.specs.Lattice.{Lattice}
use Rattle.fill_text.specs.Rules.{Values, fill_layer, raster_of}
use Rattle.gds_grammar.specs.declared.element.Transform.{Transform}
use Rattle.gds_grammar.specs.Values.{Shape, Cell, Contents, boundary, reference, array}
use Rattle.fill_stacks.specs.Places.{PlaceSet}
use Rattle.fill_stacks.specs.Stacks.{stacks}
use Rattle.fill_stacks.specs.declared.pieces.Stack.{Stack}

-- the points of the boundary of the one box
abbrev pub box_points : Lattice → List Point
box_points r =
    record { x = pos 0; y = pos 0 } ∷ record { x = pos 0; y = r.up.length } ∷ record { x = r.across.length; y = r.up.length }
    ∷ record { x = r.across.length; y = pos 0 } ∷ record { x = pos 0; y = pos 0 } ∷ []

-- the lower left corner of the box of a place
abbrev pub corner_of : Lattice → ℤ → ℤ → Point
corner_of r i j = record { x = box_begin r.across i; y = box_begin r.up j }

-- the points of the array of a stack: the first corner, the one behind the last column, the one above the last row
abbrev pub stack_points : Lattice → Stack → List Point
stack_points r s =
    corner_of r s.column s.row
    ∷ record { x = box_begin r.across s.column +ℤ (pos s.columns *ℤ r.across.step); y = box_begin r.up s.row }
    ∷ record { x = box_begin r.across s.column; y = box_begin r.up s.row +ℤ (pos s.rows *ℤ r.up.step) } ∷ []

-- neither reflected nor turned nor magnified
abbrev pub plain : Transform
plain = record { flags = 0; magnification = None; angle = None }

-- a stack: a reference for a box alone, an array for more
abbrev pub stack_shapes : List ℕ → Lattice → Stack → List Shape
stack_shapes cell r s =
    if (s.columns == 1) && (s.rows == 1) then reference cell plain (corner_of r s.column s.row) ∷ []
    else array cell plain s.columns s.rows (stack_points r s) ∷ []

-- the cell of the one box
abbrev pub box_cell : Values → Cell
box_cell v = record { name = v.fill_cell; shapes = boundary (fill_layer v) (box_points (raster_of v.numbers)) ∷ [] }

-- the cell that refers to it
abbrev pub top_cell : Values → PlaceSet → Cell
top_cell v filled = record { name = v.fill_top; shapes = flat_map (stack_shapes v.fill_cell (raster_of v.numbers)) (stacks filled (raster_of v.numbers)) }

abbrev pub fill_contents : List ℕ → List ℕ → Values → PlaceSet → Contents
fill_contents units dates v filled = record { dates = dates; units = units; cells = box_cell v ∷ top_cell v filled ∷ [] }
