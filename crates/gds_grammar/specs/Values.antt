-- What a library says, without where it lies in memory.
use Rattle.std.specs.Prelude.{ℕ, ℤ, List, map, Option}
use Rattle.std.specs.Global.{Vec}
use Rattle.fill_base.specs.declared.layer.Layer.{Layer}
use Rattle.fill_base.specs.declared.place.Point.{Point}
use Rattle.gds_grammar.specs.Points.{points_of}
use Rattle.gds_grammar.specs.declared.element.Path as paths
use Rattle.gds_grammar.specs.declared.element.Ref as references
use Rattle.gds_grammar.specs.declared.element.points.Points.{Points}
use Rattle.gds_grammar.specs.declared.element.Transform.{Transform}
use Rattle.gds_grammar.specs.declared.element.Element.{Element}
use Rattle.gds_grammar.specs.declared.element.Element.TheVariants as elements
use Rattle.gds_grammar.specs.declared.library.Library as libraries

-- a path, without its layer
pub record Wire : Type 0 where
  pub path_type : Option ℕ
  pub width : Option ℤ
  pub begin_extension : Option ℤ
  pub end_extension : Option ℤ
  pub points : List Point

pub data Shape : Type 0 where
  boundary : (layer : Layer) (points : List Point) → Shape
  path : (layer : Layer) (wire : Wire) → Shape
  reference : (cell : List ℕ) (transform : Transform) (origin : Point) → Shape
  array : (cell : List ℕ) (transform : Transform) (columns rows : ℕ) (points : List Point) → Shape

pub record Cell : Type 0 where
  pub name : List ℕ
  pub shapes : List Shape

pub record Contents : Type 0 where
  pub dates : List ℕ
  pub units : List ℕ
  pub cells : List Cell

abbrev pub points_in : Points → List Point
points_in points = points_of points.xy.now

abbrev pub wire_of : paths.Path → Wire
wire_of p = record {
  path_type = p.path_type;
  width = p.width;
  begin_extension = p.begin_extension;
  end_extension = p.end_extension;
  points = points_in p.points;
}

abbrev pub shape_of_path : paths.Path → Shape
shape_of_path p = path p.layer (wire_of p)

abbrev pub shape_of_reference : references.Ref → Shape
shape_of_reference r = reference r.cell.now r.transform r.origin

abbrev pub shape_of : Element → Shape
shape_of (elements.Boundary b) = boundary b.layer (points_in b.points)
shape_of (elements.Path p) = shape_of_path p.value
shape_of (elements.Ref r) = shape_of_reference r.value
shape_of (elements.Array a) =
    array a.value.cell.now a.value.transform a.value.columns a.value.rows a.value.points

abbrev pub cell_of : Vec ℕ × Vec Element → Cell
cell_of entry = record { name = entry.0.items; shapes = map shape_of entry.1.items }

abbrev pub contents_of : libraries.Library → Contents
contents_of library = record {
  dates = library.dates;
  units = library.units;
  cells = map cell_of library.cells.entries;
}
