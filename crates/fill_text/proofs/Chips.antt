-- The numbers of a chip's rules, and those of a part of it.
use Rattle.std.proofs.Common.{◌≡◌, ℤ, pos, List, length, map, set, None, ap, refl}
use Rattle.std.proofs.lemmas.List.FromFn.{fill_by_all}
use Rattle.std.specs.Prelude.{◌&&◌, get_or}
use Rattle.fill_text.specs.Chips.{AreChipNumbers, chip_faults, with_rows}
use Rattle.fill_text.specs.Grids.{is_axis}
use Rattle.fill_text.specs.Keys.{IsWithin, all_number_keys}
use Rattle.fill_text.specs.Rasters.{keeps_pitch}
use Rattle.fill_text.specs.RectTests.{is_rect}
use Rattle.fill_text.specs.Refusals.{first_some}
use Rattle.fill_text.specs.Rules.{Values, frame_of, number_in, raster_of, value_of, whole_windows}
use Rattle.fill_text.specs.declared.chip.ChipRows.{ChipRows}
use Rattle.fill_text.specs.declared.keys.NumberKey.{NumberKey}
use Rattle.fill_text.specs.declared.keys.NumberKey.TheVariants.{BoxW, BoxH, StepX, StepY, OriginX, OriginY, Spacing, FillSpacing, Min, TileNx, TileNy}
use Rattle.fill_text.specs.declared.rule_error.RuleError.TheVariants.{BadPitch, BadRect, BadWindows}
use Rattle.fill_text.proofs.FirstFaults.{none_at, unless_holds}
use Rattle.fill_text.proofs.GridTests.{is_axis_facts}
use Rattle.fill_text.proofs.RasterTests.{is_band, pitch_facts}
use Rattle.fill_text.proofs.Rectangles.{both, is_rect_facts}

pub chip_numbers : (values : Values) → ((key : NumberKey) → IsWithin key (value_of values key)) → first_some (chip_faults values) ≡ None → AreChipNumbers values
chip_numbers values within none =
    let (corners, wide, tall) = is_rect_facts (frame_of values.numbers) (unless_holds (is_rect (frame_of values.numbers)) BadRect (none_at (chip_faults values) 2 none)) in
    let windows = whole_windows values.numbers in
    let (across, up) = both (is_axis windows.across) (is_axis windows.up) (unless_holds (is_axis windows.across && is_axis windows.up) BadWindows (none_at (chip_faults values) 3 none)) in
    let raster = raster_of values.numbers in
    record {
      places_across = record {
        least = corners.left_is.least;
        ordered = wide;
        most = corners.right_is.most;
        length_is = record { least = (within BoxW).0; most = (within BoxW).1 };
        step_is = record { least = (within StepX).0; most = (within StepX).1 };
        origin_is = record { least = (within OriginX).0; most = (within OriginX).1 };
        band_is = is_band _ (within TileNx).0 (within TileNx).1;
      };
      places_up = record {
        least = corners.bottom_is.least;
        ordered = tall;
        most = corners.top_is.most;
        length_is = record { least = (within BoxH).0; most = (within BoxH).1 };
        step_is = record { least = (within StepY).0; most = (within StepY).1 };
        origin_is = record { least = (within OriginY).0; most = (within OriginY).1 };
        band_is = is_band _ (within TileNy).0 (within TileNy).1;
      };
      windows_across = is_axis_facts windows.across across;
      windows_up = is_axis_facts windows.up up;
      spacing = record { least = (within Spacing).0; most = (within Spacing).1 };
      fill_spacing = record { least = (within FillSpacing).0; most = (within FillSpacing).1 };
      pitch = pitch_facts raster (value_of values FillSpacing) (unless_holds (keeps_pitch raster (value_of values FillSpacing)) BadPitch (none_at (chip_faults values) 4 none));
      least = record { least = (within Min).0; most = (within Min).1 };
    }

-- a list of 28 is what its places give
listed : (numbers : List ℤ) → length numbers ≡ 28 → numbers ≡ map (number_in numbers) all_number_keys
listed numbers many = fill_by_all (λ i. get_or numbers i (pos 0)) numbers 28 (pos 0) many (λ i below. refl)

-- four writes make the numbers with other rows
pub rows_written : (values : Values) (rows : ChipRows) → length values.numbers ≡ 28
    → set (set (set (set values.numbers 1 rows.bottom) 3 rows.top) 17 rows.first_window) 19 (pos rows.windows) ≡ (with_rows values rows).numbers
rows_written values rows many = ap (λ (numbers : List ℤ). set (set (set (set numbers 1 rows.bottom) 3 rows.top) 17 rows.first_window) 19 (pos rows.windows)) (listed values.numbers many)
