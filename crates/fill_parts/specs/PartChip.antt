-- A part of a chip as a smaller chip: the rows of tiles and of windows that it has, its rules, and what they give of the part.
use Rattle.std.specs.Prelude.{◌≡◌, ℕ, ℤ, ◌-◌, ◌*◌, ◌<◌, Bool, ◌&&◌, not, true, List, Result, Ok, Err, min, nat_le, nat_lt, if◌then◌else◌, ◌≤ℤ◌, ◌<ℤ◌}
use Rattle.fill_raster.specs.Axes.{band_of, bands, first, past}
use Rattle.fill_raster.specs.Lattice.{tiles}
use Rattle.fill_text.specs.Chips.{with_rows}
use Rattle.fill_text.specs.Rasters.{has_few_places}
use Rattle.fill_text.specs.Rules.{Values, limits_of, raster_of, whole_windows, windows_of}
use Rattle.fill_text.specs.declared.chip.ChipRows.{ChipRows}
use Rattle.fill_job.specs.Plans.{Layers, Plan, PointSet, drawn_squares, plan_of}
use Rattle.fill_job.specs.Searches.{some_below}
use Rattle.fill_core.specs.Boxes.{low_fill}
use Rattle.fill_core.specs.Soundness.{IsSound}
use Rattle.fill_report.specs.BookReport.{boxes_of}
use Rattle.fill_report.specs.Report.{lines_above, measures_of, nothing}
use Rattle.fill_parts.specs.Cuts.{Part, first_row, past_row}
use Rattle.fill_parts.specs.Needs.{row_of}
use Rattle.fill_parts.specs.PartFill.{part_fill}
use Rattle.fill_parts.specs.PartReport.{part_check, part_report}
use Rattle.fill_parts.specs.PartRows.{chip_tiles, looked_at_windows, looks_at_row, needs_row}
use Rattle.fill_parts.specs.Smaller.{Rows, AreRowsOf, AreSome, IsHeldBy}
use Rattle.fill_parts.specs.SmallerRules.{Cover, rules_alone}
use Rattle.fill_parts.specs.declared.part_rules.PartRulesError.{PartRulesError}
use Rattle.fill_parts.specs.declared.part_rules.PartRulesError.TheVariants.{Windows, Places}

-- the metal of a row of windows has to be known for the part
abbrev pub looks_at : Plan → Part → ℕ → Bool
looks_at plan part = looks_at_row part plan.raster.up plan.windows.up

-- the rows of its windows and of its tiles
abbrev pub part_windows : Plan → Part → Rows
part_windows plan part = looked_at_windows part plan.raster.up plan.windows.up

abbrev pub part_tiles : Values → Part → Rows
part_tiles values part = chip_tiles values.ignores part (plan_of values).raster.up (plan_of values).windows.up

-- the part whose rows these are: itself, but where it looks at no window the last one, which always looks at some
abbrev pub looking_part : Values → Part → Part
looking_part values part =
    if some_below (looks_at (plan_of values) part) (plan_of values).windows.up.count
    then part
    else record { number = part.count - 1; count = part.count }

-- the values of some rows alone, of which there are at most 2^20 windows and at most 2^24 places, or else what there are too many of:
-- windows are told first
abbrev pub by_size : Values → Result Values PartRulesError
by_size values =
    if nat_le ((whole_windows values.numbers).across.count * (whole_windows values.numbers).up.count) 1048576
    then (if has_few_places (raster_of values.numbers) then Ok values else Err Places)
    else Err Windows

-- the values of the part's rows alone
abbrev pub part_alone : Values → Part → Values
part_alone values part = rules_alone values (part_tiles values part) (part_windows (plan_of values) part)

-- the rules of the part as a smaller chip, or what there is too much of
abbrev pub part_rules : Values → Part → Result Values PartRulesError
part_rules values part = by_size (part_alone values (looking_part values part))

-- the part's own rows of tiles; where it has none, the lowest of them
abbrev pub own_tiles : Part → ℕ → Rows
own_tiles part count =
    if nat_lt (first_row part count) (past_row part count)
    then record { from = first_row part count; to = past_row part count }
    else record { from = 0; to = min 1 count }

-- the values of these rows alone, under which the part's fill library is read; of the windows they keep the lowest row
abbrev pub own_alone : Values → Part → Values
own_alone values part = rules_alone values (own_tiles part (bands (raster_of values.numbers).up)) (record { from = 0; to = 1 })

-- the plan of the part's rules
abbrev pub chip_plan : Values → Part → Plan
chip_plan values part = plan_of (part_alone values part)

-- these rows are some, or none of no tiles, the tiles cover what counts of the windows where nothing beside the frame does, and each tile
-- of a row that the part needs is of them
pub record IsChipOf (values : Values) (part : Part) : Type 0 where
  pub rows : AreRowsOf (part_tiles values part) (bands (plan_of values).raster.up)
  pub windows : AreSome (part_windows (plan_of values) part) (plan_of values).windows.up.count
  pub cover : values.ignores ≡ true → Cover values (part_tiles values part) (part_windows (plan_of values) part)
  pub held : (tile : ℕ) → tile < tiles (plan_of values).raster → needs_row part (plan_of values).raster.up (plan_of values).windows.up (row_of (plan_of values).raster tile) ≡ true
      → IsHeldBy (plan_of values) (part_tiles values part) (part_windows (plan_of values) part) tile

-- ---- what a smaller chip gives of a part

-- some rows, counted from another one on
abbrev pub counted_from : ℕ → Rows → Rows
counted_from low rows = if nat_lt rows.from rows.to then record { from = rows.from - low; to = rows.to - low } else record { from = 0; to = 0 }

-- the row is one of them
abbrev pub is_row_in : Rows → ℕ → Bool
is_row_in rows row = not (nat_lt row rows.from) && nat_lt row rows.to

-- the places of a set in some rows of tiles
abbrev pub rows_fill : Plan → Rows → PointSet → PointSet
rows_fill plan rows fill i j = fill i j && is_row_in rows (band_of plan.raster.up j)

-- the lines of some rows of windows, which tell so many rows more than their own, of sets of metal and of boxes
abbrev pub rows_told : Values → Rows → ℕ → PointSet → PointSet → List ℕ
rows_told values rows above metal boxes =
    lines_above above (windows_of values) (limits_of values) (measures_of metal boxes (windows_of values)) (rows.from * (windows_of values).across.count) ((rows.to - rows.from) * (windows_of values).across.count)

-- the places of a part stand in the rows of the smaller chip, which are rows of the whole one
pub record StandsIn (values : Values) (part : Part) (small : Values) : Type 0 where
  pub from : first (plan_of values).raster.up ≤ℤ first (plan_of small).raster.up
  pub to : past (plan_of small).raster.up ≤ℤ past (plan_of values).raster.up
  pub fill : (layers : Layers) (i j : ℤ) → part_fill (plan_of values) layers part i j ≡ true → (first (plan_of small).raster.up ≤ℤ j) × (j <ℤ past (plan_of small).raster.up)

-- Rules of some rows of a chip hold all that a part of it has, of any layers: the fill of these rows of tiles is the part's,
-- and the lines of these rows of windows, which tell so many rows more than their own, are the part's, with fill and without.
pub record HoldsPart (values : Values) (part : Part) (small : Values) (tiles windows : Rows) (below : ℕ) : Type 0 where
  pub rows : ChipRows
  pub alone : small ≡ with_rows values rows
  pub fill : (layers : Layers) → rows_fill (plan_of small) tiles (low_fill (plan_of small) layers) ≡ part_fill (plan_of values) layers part
  pub stands : StandsIn values part small
  pub lines : (layers : Layers) → rows_told small windows below (drawn_squares layers) (boxes_of (plan_of small) (low_fill (plan_of small) layers)) ≡ part_report values (drawn_squares layers) (low_fill (plan_of values) layers) part
  pub checks : (metal : PointSet) → rows_told small windows below metal nothing ≡ part_check values metal part
  pub sound : (layers : Layers) → IsSound (plan_of values) layers (low_fill (plan_of values) layers)
