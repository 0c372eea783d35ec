-- A library without the shapes of other layers than some.
use Rattle.std.specs.Prelude.{ℕ, Bool, true, List, map, filter, ◌==◌, ◌&&◌}
use Rattle.std.specs.List.{list_any}
use Rattle.fill_base.specs.declared.layer.Layer.{Layer}
use Rattle.gds_grammar.specs.Values.{Shape, boundary, path, reference, array, Cell, Contents}

-- a boundary or path whose layer passes the test, or a reference
abbrev pub is_kept : (Layer → Bool) → Shape → Bool
is_kept keep (boundary layer points) = keep layer
is_kept keep (path layer wire) = keep layer
is_kept keep (reference cell transform origin) = true
is_kept keep (array cell transform columns rows points) = true

abbrev pub kept_shapes : (Layer → Bool) → List Shape → List Shape
kept_shapes keep shapes = filter (is_kept keep) shapes

abbrev pub kept_cell : (Layer → Bool) → Cell → Cell
kept_cell keep c = record { name = c.name; shapes = kept_shapes keep c.shapes }

-- the same cells, with what is kept of each
abbrev pub kept : (Layer → Bool) → Contents → Contents
kept keep l = record { dates = l.dates; units = l.units; cells = map (kept_cell keep) l.cells }

-- both have the same two numbers
abbrev pub same_layer : Layer → Layer → Bool
same_layer a b = a.layer == b.layer && a.data_type == b.data_type

-- the layer is among these
abbrev pub has_layer : List Layer → Layer → Bool
has_layer layers layer = list_any (λ l. same_layer l layer) layers

-- the same cells and references, and of the shapes those of the layers
abbrev pub of_layers : List Layer → Contents → Contents
of_layers layers = kept (has_layer layers)
