-- The fill of a part, and the layers after a script.
use Rattle.std.specs.Prelude.{◌&&◌, ◌||◌, not, Bool, List, [], ◌∷◌}
use Rattle.fill_base.specs.declared.rect.Rect.{Rect}
use Rattle.fill_text.specs.Script.{Change}
use Rattle.fill_text.specs.declared.script.Edit.{Edit}
use Rattle.fill_text.specs.declared.script.Kind.{Kind}
use Rattle.fill_text.specs.declared.script.Kind.TheVariants as kind
use Rattle.fill_text.specs.declared.script.Edit.TheVariants.{Add, Cut, Keep}
use Rattle.fill_job.specs.Plans.{Plan, Layers, PointSet}
use Rattle.fill_core.specs.Boxes.{low_fill}
use Rattle.fill_core.specs.Machine.{layers_after}
use Rattle.fill_parts.specs.Cuts.{Part}
use Rattle.fill_parts.specs.Needs.{has_tile, is_inside}
use Rattle.fill_raster.specs.Lattice.{tile_of}

-- of the fill of the whole design the places in the part's tiles
abbrev pub part_fill : Plan → Layers → Part → PointSet
part_fill plan layers part i j = low_fill plan layers i j && has_tile plan part (tile_of plan.raster i j)

-- the layers after edits, one after another
unfoldable pub layers_with : List Edit → Layers → Layers
layers_with [] layers = layers
layers_with (edit ∷ edits) layers = layers_with edits (layers_after edit layers)

-- the rectangle of an edit
abbrev pub rect_of : Edit → Rect
rect_of (Add r) = r
rect_of (Cut r) = r
rect_of (Keep r) = r

-- the same by a script's changes, each a kind and four sides
abbrev pub kind_after : Kind → Bool → Bool → Bool
kind_after kind.Add metal inside = metal || inside
kind_after kind.Cut metal inside = metal && not inside
kind_after kind.Keep metal inside = metal

abbrev pub kind_keeps : Kind → Bool → Bool → Bool
kind_keeps kind.Add keep inside = keep
kind_keeps kind.Cut keep inside = keep
kind_keeps kind.Keep keep inside = keep || inside

abbrev pub change_after : Change → Layers → Layers
change_after change layers = record {
  metal = λ x y. kind_after change.kind (layers.metal x y) (is_inside change.rect x y);
  fill = layers.fill;
  keep = λ x y. kind_keeps change.kind (layers.keep x y) (is_inside change.rect x y);
}

unfoldable pub layers_by : List Change → Layers → Layers
layers_by [] layers = layers
layers_by (change ∷ changes) layers = layers_by changes (change_after change layers)
