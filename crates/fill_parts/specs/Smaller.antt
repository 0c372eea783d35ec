-- Some rows of a chip as a chip of their own: the same rules, but with a frame and with windows that reach no further.
use Rattle.std.specs.Prelude.{true, ◌≡◌, ◌⊎◌, ℕ, ◌+◌, ◌-◌, ◌<◌, ◌≤◌, ◌==◌, if◌then◌else◌}
use Rattle.fill_base.specs.Limits.{IsSpacing}
use Rattle.fill_area.specs.Axes as areas
use Rattle.fill_area.specs.Axes.{axis_begin}
use Rattle.fill_area.specs.Density.{IsShare}
use Rattle.fill_area.specs.Grid.{IsClip, parts_up}
use Rattle.fill_area.specs.Parts.{part_begin, part_end}
use Rattle.fill_area.specs.declared.axis.Axis as spans
use Rattle.fill_raster.specs.Axes.{IsAxis, bands, band_begin, band_end}
use Rattle.fill_raster.specs.Lattice.{KeepsPitch}
use Rattle.fill_raster.specs.declared.axis.Axis.{Axis}
use Rattle.fill_job.specs.Plans.{Plan}
use Rattle.fill_parts.specs.Needs.{is_level, row_of}

-- the numbers of each axis are in their ranges, of places and of windows, however many there are together
pub record AreAxes (plan : Plan) : Type 0 where
  pub places_across : IsAxis plan.raster.across
  pub places_up : IsAxis plan.raster.up
  pub windows_across : areas.IsAxis plan.windows.across
  pub windows_up : areas.IsAxis plan.windows.up

-- a plan, however many places and windows it has
pub record IsPlanOfAnySize (plan : Plan) : Type 0 where
  pub axes : AreAxes plan
  pub clip : IsClip plan.windows.clip
  pub spacing : IsSpacing plan.spacing
  pub fill_spacing : IsSpacing plan.fill_spacing
  pub pitch : KeepsPitch plan.raster plan.fill_spacing
  pub least : IsShare plan.least

-- rows from one on and below another
pub record Rows : Type 0 where
  pub from : ℕ
  pub to : ℕ

-- some of so many rows
pub record AreSome (rows : Rows) (count : ℕ) : Type 0 where
  pub some : rows.from < rows.to
  pub within : rows.to ≤ count

-- some of them, or none of none
abbrev pub AreRowsOf : Rows → ℕ → Type 0
AreRowsOf rows count = AreSome rows count ⊎ ((rows.from ≡ 0) × (rows.to ≡ 0) × (count ≡ 0))

-- The places of some bands of an axis alone: its frame begins where the first of these bands does and ends where the last one does,
-- but goes on to the frame's own edge where no band lies beyond.
abbrev pub bands_alone : Axis → Rows → Axis
bands_alone a rows = record a {
  low = if rows.from == 0 then a.low else band_begin a rows.from;
  high = if rows.to == bands a then a.high else band_end a (rows.to - 1);
}

-- some windows of an axis alone
abbrev pub spans_alone : spans.Axis → Rows → spans.Axis
spans_alone axis rows = record axis { first = axis_begin axis rows.from; count = rows.to - rows.from }

-- The second plan is that of some rows of tiles and of windows of the first one: of each of these windows as much counts in both.
pub record IsSmaller (whole small : Plan) (tiles windows : Rows) : Type 0 where
  pub across : small.raster.across ≡ whole.raster.across
  pub up : small.raster.up ≡ bands_alone whole.raster.up tiles
  pub columns : small.windows.across ≡ whole.windows.across
  pub rows : small.windows.up ≡ spans_alone whole.windows.up windows
  pub left : small.windows.clip.left ≡ whole.windows.clip.left
  pub right : small.windows.clip.right ≡ whole.windows.clip.right
  pub begins : (b : ℕ) → b < small.windows.up.count → part_begin (parts_up small.windows) b ≡ part_begin (parts_up whole.windows) (windows.from + b)
  pub ends : (b : ℕ) → b < small.windows.up.count → part_end (parts_up small.windows) b ≡ part_end (parts_up whole.windows) (windows.from + b)
  pub spacing : small.spacing ≡ whole.spacing
  pub fill_spacing : small.fill_spacing ≡ whole.fill_spacing
  pub least : small.least ≡ whole.least

-- the tile is of those rows, and so are the windows level with it
pub record IsHeldBy (plan : Plan) (tiles windows : Rows) (tile : ℕ) : Type 0 where
  pub from : tiles.from ≤ row_of plan.raster tile
  pub to : row_of plan.raster tile < tiles.to
  pub level : (b : ℕ) → b < plan.windows.up.count → is_level plan tile b ≡ true → (windows.from ≤ b) × (b < windows.to)
