-- In an accepted rule file each number is in its key's range, and the values fit one another.
use Rattle.std.proofs.Common.{◌≡◌, ◌∙◌, ℕ, ℤ, pos, true, List, [], Option, Some, None, option_map, Ok, ap, sym}
use Rattle.std.specs.Prelude.{get_or, unwrap_or}
use Rattle.fill_raster.specs.Lattice.{KeepsPitch, HasFewPlaces, places}
use Rattle.fill_text.specs.Grids.{is_grid}
use Rattle.fill_text.specs.Keys.{IsWithin}
use Rattle.fill_text.specs.Numbers.{number_of}
use Rattle.fill_text.specs.Rasters.{has_few_places, keeps_pitch}
use Rattle.fill_text.specs.RectTests.{is_rect}
use Rattle.fill_text.specs.Rows.{rows_of}
use Rattle.fill_text.specs.Rules.{Values, frame_of, is_in_range, joint_faults, number_fault, number_for, raster_of, rules_of, value_of, whole_windows, word_for}
use Rattle.fill_text.specs.declared.keys.Key.TheVariants.{Number}
use Rattle.fill_text.specs.declared.keys.NumberKey.{NumberKey}
use Rattle.fill_text.specs.declared.keys.NumberKey.TheVariants.{FillSpacing}
use Rattle.fill_text.specs.declared.rule_error.RuleError.TheVariants.{BadPitch, BadRect, BadRule, BadWindows, TooManyPlaces}
use Rattle.fill_text.proofs.FirstFaults.{none_at, unless_holds}
use Rattle.fill_text.proofs.GridTests.{nat_le_facts}
use Rattle.fill_text.proofs.Ranges.{in_range_facts}
use Rattle.fill_text.proofs.RasterTests.{pitch_facts}
use Rattle.fill_text.proofs.Standing.{accepted, stands, value_listed}

pub each_within : (file : List ℕ) (values : Values) → rules_of file ≡ Ok values → (key : NumberKey) → IsWithin key (value_of values key)
each_within file values e key =
    let is = accepted file values e in
    let (fields, found, written, line, fits) = stands (rows_of file) (Number key) is.sound (is.all (Number key) tt) in
    let word : word_for (Number key) (rows_of file) ≡ Some (get_or fields 1 []) = ap (option_map (λ (r : List (List ℕ)). get_or r 1 [])) found in
    let value : number_for (rows_of file) key ≡ value_of values key = sym (value_listed (number_for (rows_of file)) key) ∙ ap (λ (v : Values). value_of v key) is.same in
    rw (← value, word) (by line (number_of (get_or fields 1 [])) fits)
  where
    by : (line : ℕ) (o : Option ℤ) → number_fault line key o ≡ None → IsWithin key (unwrap_or o (pos 0))
    by line None fits = cc fits
    by line (Some n) fits = in_range_facts key n (unless_holds (is_in_range key n) (BadRule (Number key)) fits)

-- the frame holds a square, each window lies within the coordinates, and the places keep their boxes apart and are few
pub record FitTogether (values : Values) : Type 0 where
  pub frame : is_rect (frame_of values.numbers) ≡ true
  pub windows : is_grid (whole_windows values.numbers) ≡ true
  pub pitch : KeepsPitch (raster_of values.numbers) (value_of values FillSpacing)
  pub few : HasFewPlaces (raster_of values.numbers)

pub fit_together : (file : List ℕ) (values : Values) → rules_of file ≡ Ok values → FitTogether values
fit_together file values e =
    let none = (accepted file values e).joint in
    record {
      frame = unless_holds (is_rect (frame_of values.numbers)) BadRect (none_at (joint_faults values) 2 none);
      windows = unless_holds (is_grid (whole_windows values.numbers)) BadWindows (none_at (joint_faults values) 3 none);
      pitch = pitch_facts (raster_of values.numbers) (value_of values FillSpacing)
          (unless_holds (keeps_pitch (raster_of values.numbers) (value_of values FillSpacing)) BadPitch (none_at (joint_faults values) 4 none));
      few = nat_le_facts (places (raster_of values.numbers)) 16777216 (unless_holds (has_few_places (raster_of values.numbers)) TooManyPlaces (none_at (joint_faults values) 5 none));
    }
