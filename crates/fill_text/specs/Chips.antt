-- The rules of a chip of any size: what a rule file says, however many windows and places there are. A part of a chip is a chip
-- of its own, whose rules are the same values with other rows.
use Rattle.std.specs.Prelude.{ℕ, ℤ, pos, ◌&&◌, ◌++◌, List, [], ◌∷◌, map, Option, Result, bytes_eq, int_lt}
use Rattle.fill_area.specs.Axes as areas
use Rattle.fill_area.specs.Density.{IsShare}
use Rattle.fill_base.specs.Limits.{IsSpacing}
use Rattle.fill_raster.specs.Axes.{IsAxis}
use Rattle.fill_raster.specs.Lattice.{KeepsPitch}
use Rattle.fill_text.specs.Grids.{is_axis}
use Rattle.fill_text.specs.Keys.{all_number_keys}
use Rattle.fill_text.specs.Rasters.{keeps_pitch}
use Rattle.fill_text.specs.RectTests.{is_rect}
use Rattle.fill_text.specs.Refusals.{fault_if, fault_unless, first_some, refused_or}
use Rattle.fill_text.specs.Rows.{rows_of}
use Rattle.fill_text.specs.Rules.{Values, entry_faults, frame_of, joint_faults, raster_of, value_of, values_for, whole_windows}
use Rattle.fill_text.specs.declared.chip.ChipRows.{ChipRows}
use Rattle.fill_text.specs.declared.keys.Key.TheVariants.{Number, Text}
use Rattle.fill_text.specs.declared.keys.NumberKey.{NumberKey}
use Rattle.fill_text.specs.declared.keys.NumberKey.TheVariants as number
use Rattle.fill_text.specs.declared.keys.TextKey.TheVariants as text
use Rattle.fill_text.specs.declared.rule_error.RuleError.{RuleError}
use Rattle.fill_text.specs.declared.rule_error.RuleError.TheVariants.{BadRule, BadRect, BadWindows, BadPitch}

-- what is asked of a chip's values together: as of a rule file's, but not how many windows and places there are
abbrev pub chip_faults : Values → List (Option RuleError)
chip_faults values =
    fault_if (int_lt (value_of values number.Max) (value_of values number.Min)) (BadRule (Number number.Max))
    ∷ fault_if (bytes_eq values.fill_top values.fill_cell) (BadRule (Text text.FillTop))
    ∷ fault_unless (is_rect (frame_of values.numbers)) BadRect
    ∷ fault_unless (is_axis (whole_windows values.numbers).across && is_axis (whole_windows values.numbers).up) BadWindows
    ∷ fault_unless (keeps_pitch (raster_of values.numbers) (value_of values number.FillSpacing)) BadPitch
    ∷ []

-- the values that the rule file of a chip of any size gives, or its first fault
unfoldable pub chip_of : List ℕ → Result Values RuleError
chip_of file = let rows = rows_of file in refused_or (first_some (entry_faults rows ++ chip_faults (values_for rows))) (values_for rows)

-- the value of a key where these rows are left: the frame and the windows have other rows, and all else stays
abbrev pub value_with_rows : Values → ChipRows → NumberKey → ℤ
value_with_rows values rows number.FrameY1 = rows.bottom
value_with_rows values rows number.FrameY2 = rows.top
value_with_rows values rows number.WinY = rows.first_window
value_with_rows values rows number.WinNy = pos rows.windows
value_with_rows values rows key = value_of values key

-- the same values with these rows
abbrev pub with_rows : Values → ChipRows → Values
with_rows values rows = record values { numbers = map (value_with_rows values rows) all_number_keys }

-- the values, or the first fault of them together
abbrev pub judged : Values → Result Values RuleError
judged values = refused_or (first_some (joint_faults values)) values

-- what a plan asks of the numbers, however many places and windows there are: each axis is in its range, boxes keep their pitch,
-- and the gaps and the least density are in range
pub record AreChipNumbers (values : Values) : Type 0 where
  pub places_across : IsAxis (raster_of values.numbers).across
  pub places_up : IsAxis (raster_of values.numbers).up
  pub windows_across : areas.IsAxis (whole_windows values.numbers).across
  pub windows_up : areas.IsAxis (whole_windows values.numbers).up
  pub spacing : IsSpacing (value_of values number.Spacing)
  pub fill_spacing : IsSpacing (value_of values number.FillSpacing)
  pub pitch : KeepsPitch (raster_of values.numbers) (value_of values number.FillSpacing)
  pub least : IsShare (value_of values number.Min)
