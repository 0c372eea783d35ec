-- The shapes of layers: what each covers, how far it goes, and why it's refused.
use Rattle.std.specs.Prelude.{ℤ, Bool, false, List, [], map, cond, Option, Some, None, All}
use Rattle.std.specs.List.{list_any}
use Rattle.fill_base.specs.declared.layer.Layer.{Layer}
use Rattle.gds_grammar.specs.Layers.{has_layer}
use Rattle.gds_grammar.specs.Values.{boundary, path, reference, array, Shape as Element}
use Rattle.gds_shape.specs.declared.bounds.Bounds.{Bounds}
use Rattle.gds_shape.specs.declared.error.ShapeError.{ShapeError}
use Rattle.gds_shape.specs.declared.error.ShapeError.TheVariants as shapes
use Rattle.gds_shape.specs.Winding.{covers, edges}
use Rattle.gds_shape.specs.Paths.{is_slanted, path_covers, path_fault, segments_of, AreInRange}
use Rattle.gds_shape.specs.Extents.{at_point}
use Rattle.gds_cells.specs.declared.error.FlattenError.{FlattenError}
use Rattle.gds_cells.specs.declared.error.FlattenError.TheVariants.{NotManhattan, RoundEnd, OddWidth, DoublesBack, BadExtension, OutOfRange, Memory}
use Rattle.gds_cells.specs.declared.placement.Placement.{Placement}
use Rattle.gds_cells.specs.Placements.{carried_bounds}

-- a boundary or path of one of the layers
abbrev pub is_shape : List Layer → Element → Bool
is_shape layers (boundary l points) = has_layer layers l
is_shape layers (path l wire) = has_layer layers l
is_shape layers (reference cell transform origin) = false
is_shape layers (array cell transform columns rows points) = false

-- the squares that it covers
abbrev pub covers_of : Element → ℤ → ℤ → Bool
covers_of (boundary l points) x y = covers points x y
covers_of (path l wire) x y = path_covers wire x y
covers_of (reference cell transform origin) x y = false
covers_of (array cell transform columns rows points) x y = false

-- the points of a boundary, the rectangles of a path's segments
abbrev pub parts_of : Element → List Bounds
parts_of (boundary l points) = map at_point points
parts_of (path l wire) = segments_of wire
parts_of (reference cell transform origin) = []
parts_of (array cell transform columns rows points) = []

-- carried so, it stays within the coordinates, also where it covers nothing
abbrev pub StaysInRange : Placement → Element → Type 0
StaysInRange p element = All (λ b. AreInRange (carried_bounds p b)) (parts_of element)

abbrev pub refusal_of : ShapeError → FlattenError
refusal_of shapes.NotManhattan = NotManhattan
refusal_of shapes.RoundEnd = RoundEnd
refusal_of shapes.OddWidth = OddWidth
refusal_of shapes.DoublesBack = DoublesBack
refusal_of shapes.BadExtension = BadExtension
refusal_of shapes.OutOfRange = OutOfRange
refusal_of shapes.Memory = Memory

abbrev pub refusal_if : Option ShapeError → Option FlattenError
refusal_if (Some e) = Some (refusal_of e)
refusal_if None = None

-- why a shape is refused
abbrev pub shape_fault : Element → Option FlattenError
shape_fault (boundary l points) = cond (list_any is_slanted (edges points)) (Some NotManhattan) None
shape_fault (path l wire) = refusal_if (path_fault wire)
shape_fault (reference cell transform origin) = None
shape_fault (array cell transform columns rows points) = None
