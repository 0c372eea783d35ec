-- Fills of parts, each on a raster of its own rows, as one set of places.
use Rattle.std.specs.Prelude.{ℤ, false, List, Option, Some, None}
use Rattle.std.specs.List.{find}
use Rattle.fill_raster.specs.Axes.{is_on}
use Rattle.fill_state.specs.Filling.{Filling, is_filled}
use Rattle.gds_out.specs.Places.{PlaceSet}

-- the first fill that has the row
abbrev pub fill_at : List Filling → ℤ → Option Filling
fill_at fills j = find (λ f. is_on f.raster.up j) fills

abbrev pub filled_if : Option Filling → PlaceSet
filled_if None i j = false
filled_if (Some f) i j = is_filled f i j

-- the places that they fill, each in the rows that it has
abbrev pub filled_in : List Filling → PlaceSet
filled_in fills i j = filled_if (fill_at fills j) i j
