-- The rules of some rows of tiles and of windows alone.
use Rattle.std.specs.Prelude.{◌-◌, ◌≤ℤ◌}
use Rattle.std.specs.Int.{int_max, int_min}
use Rattle.fill_area.specs.Axes.{axis_begin}
use Rattle.fill_area.specs.Grid.{window_bottom, window_top}
use Rattle.fill_text.specs.Chips.{with_rows}
use Rattle.fill_text.specs.Rules.{Values, raster_of, value_of, whole_windows}
use Rattle.fill_text.specs.declared.chip.ChipRows.{ChipRows}
use Rattle.fill_text.specs.declared.keys.NumberKey.TheVariants.{FrameY1, FrameY2}
use Rattle.fill_parts.specs.Smaller.{Rows, bands_alone}

-- the frame and the windows of these rows
abbrev pub rows_alone : Values → Rows → Rows → ChipRows
rows_alone values tiles windows = record {
  bottom = (bands_alone (raster_of values.numbers).up tiles).low;
  top = (bands_alone (raster_of values.numbers).up tiles).high;
  first_window = axis_begin (whole_windows values.numbers).up windows.from;
  windows = windows.to - windows.from;
}

abbrev pub rules_alone : Values → Rows → Rows → Values
rules_alone values tiles windows = with_rows values (rows_alone values tiles windows)

-- The tiles cover what counts of the windows: so much of each of these counts in the frame of the tiles alone as in the whole one.
pub record Cover (values : Values) (tiles windows : Rows) : Type 0 where
  pub below : (bands_alone (raster_of values.numbers).up tiles).low ≤ℤ int_max (value_of values FrameY1) (window_bottom (whole_windows values.numbers) windows.from)
  pub above : int_min (value_of values FrameY2) (window_top (whole_windows values.numbers) (windows.to - 1)) ≤ℤ (bands_alone (raster_of values.numbers).up tiles).high
