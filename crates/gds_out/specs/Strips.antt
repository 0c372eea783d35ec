-- Rasters of some rows each, one above the other, as one raster of any size.
use Rattle.std.specs.Prelude.{◌≡◌, ℤ, false, List, Option, Some, None, All}
use Rattle.std.specs.List.{find}
use Rattle.fill_raster.specs.Axes.{IsAxis, is_on}
use Rattle.fill_raster.specs.Lattice.{Lattice}
use Rattle.fill_raster.specs.declared.axis.Axis.{Axis}
use Rattle.fill_text.specs.Rules.{raster_of}
use Rattle.fill_text.specs.ValuesOfRules.{values_of}
use Rattle.gds_out.specs.Places.{AreOfTiles, PlaceSet, marked_by}
use Rattle.gds_out.specs.declared.sheet.Sheet.{Sheet}
use Rattle.gds_out.specs.declared.sheet.Strip.{Strip}

-- the first strip that has the row
abbrev pub strip_at : List Strip → ℤ → Option Strip
strip_at strips j = find (λ s. is_on s.raster.up j) strips

abbrev pub marked_if : Option Strip → PlaceSet
marked_if None i j = false
marked_if (Some s) i j = marked_by s.marks.items i j

-- the places that the strips mark, each the rows that it has
abbrev pub marked_in : List Strip → PlaceSet
marked_in strips i j = marked_if (strip_at strips j) i j

-- a strip has these columns, and the marks of each of its tiles
pub record IsStripOf (columns : Axis) (s : Strip) : Type 0 where
  pub columns_are : s.raster.across ≡ columns
  pub tiles_are : AreOfTiles s.raster s.marks.items

-- the raster of a sheet: the columns of its rules' raster, and rows of its own
abbrev pub sheet_raster : Sheet → Lattice
sheet_raster s = record { across = (raster_of (values_of s.rules.now).numbers).across; up = s.up }

-- the rows stand as those of the rules' raster do, and each strip is one of the sheet
pub record IsSheet (s : Sheet) : Type 0 where
  pub up : IsAxis s.up
  pub length : s.up.length ≡ (raster_of (values_of s.rules.now).numbers).up.length
  pub step : s.up.step ≡ (raster_of (values_of s.rules.now).numbers).up.step
  pub origin : s.up.origin ≡ (raster_of (values_of s.rules.now).numbers).up.origin
  pub strips : All (IsStripOf (raster_of (values_of s.rules.now).numbers).across) s.strips.now
