-- Sets of places, and the pieces of rows that the filled places of a raster are written in.
use Rattle.std.specs.Prelude.{ℤ, Bool, List, map, filter}
use Rattle.std.specs.List.{flat_map}
use Rattle.fill_raster.specs.Axes.{first, extent}
use Rattle.fill_raster.specs.Lattice.{Lattice}
use Rattle.fill_raster.specs.declared.axis.Axis.{Axis}
use Rattle.fill_stacks.specs.Runs.{Run, runs, pieces, numbers_from}

-- a set of places, as a test
abbrev pub PlaceSet : Type 0
PlaceSet = ℤ → ℤ → Bool

-- the places along an axis, in order
abbrev pub places_along : Axis → List ℤ
places_along a = numbers_from (first a) (extent a)

-- the columns of a row's filled places, from left to right
abbrev pub filled_columns : PlaceSet → Lattice → ℤ → List ℤ
filled_columns filled r j = filter (λ i. filled i j) (places_along r.across)

-- the filled places of a raster: row by row upwards, in a row from left to right
abbrev pub filled_places : PlaceSet → Lattice → List (ℤ × ℤ)
filled_places filled r = flat_map (λ j. map (λ i. (i, j)) (filled_columns filled r j)) (places_along r.up)

-- the pieces that a row's filled places are written in, from left to right
abbrev pub row_pieces : PlaceSet → Lattice → ℤ → List Run
row_pieces filled r j = flat_map pieces (runs (filled_columns filled r j))
