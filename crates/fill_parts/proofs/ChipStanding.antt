-- Where a part's fill stands in its chip, and the plan of a chip of any size.
use Rattle.std.proofs.Common.{◌≡◌, ℕ, ◌*◌, ◌<◌, ◌≤◌, ℤ, pos, ◌+ℤ◌, ◌≤ℤ◌, arith, Bool, true, false}
use Rattle.std.specs.Int.{int_min}
use Rattle.std.proofs.lemmas.Bool.{and_parts}
use Rattle.std.proofs.lemmas.Int.{ints, clamps}
use Rattle.fill_area.specs.Axes as areas
use Rattle.fill_area.specs.Grid.{IsClip}
use Rattle.fill_area.proofs.GridTests.{all_clip}
use Rattle.fill_raster.specs.Axes.{bands, first, is_on, past}
use Rattle.fill_raster.specs.Lattice.{tile_of}
use Rattle.fill_raster.specs.declared.axis.Axis.{Axis}
use Rattle.fill_raster.proofs.Ranges.{on_in, on_within}
use Rattle.fill_text.specs.Chips.{AreChipNumbers}
use Rattle.fill_text.specs.Rules.{Values, windows_with}
use Rattle.fill_job.specs.Plans.{plan_of}
use Rattle.fill_core.specs.Boxes.{low_fill}
use Rattle.fill_job.specs.Searches.{some_below}
use Rattle.fill_parts.specs.Cuts.{Part}
use Rattle.fill_parts.specs.Needs.{has_tile}
use Rattle.fill_parts.specs.PartChip.{StandsIn, looks_at, part_alone, part_tiles, part_windows}
use Rattle.fill_parts.specs.Smaller.{AreAxes, AreSome, IsHeldBy, IsPlanOfAnySize, Rows, bands_alone}
use Rattle.fill_parts.proofs.BandsAlone.{back_alone, first_alone, past_alone}
use Rattle.fill_parts.proofs.Leveling.{place_row, place_tile}
use Rattle.fill_parts.proofs.Looking.{held_by, part_chip, some_rows, true_or}
use Rattle.fill_parts.proofs.WindowsAlone.{filled_on}

begins_later : (a : Axis) (rows : Rows) → pos 1 ≤ℤ a.step → first a ≤ℤ first (bands_alone a rows)
begins_later a rows step = rw (first_alone a rows step) (later (first a) (rows.from * a.band))
  where
    later : (f : ℤ) (m : ℕ) → f ≤ℤ (f +ℤ pos m)
    later f m = omega (arith, ints)

ends_sooner : (a : Axis) (rows : Rows) → pos 1 ≤ℤ a.step → 1 ≤ a.band → AreSome rows (bands a) → past (bands_alone a rows) ≤ℤ past a
ends_sooner a rows step some are = rw (past_alone a rows step some are) (sooner _ (past a))
  where
    sooner : (z p : ℤ) → int_min z p ≤ℤ p
    sooner z p = omega (arith, ints, clamps)

-- where a part's fill is empty, or the part has rows of tiles that hold it
pub stands : (values : Values) (k : Part) → AreAxes (plan_of values) → 0 < bands (plan_of values).raster.up → some_below (looks_at (plan_of values) k) (plan_of values).windows.up.count ≡ true → StandsIn values k (part_alone values k)
stands values k is some looks = record {
  from = begins_later (plan_of values).raster.up (part_tiles values k) is.places_up.step_is.least;
  to = ends_sooner (plan_of values).raster.up (part_tiles values k) is.places_up.step_is.least is.places_up.band_is.least rows;
  fill = λ layers i j filled.
      let parts = and_parts (low_fill (plan_of values) layers i j) (has_tile (plan_of values) k (tile_of (plan_of values).raster i j)) filled in
      let on = filled_on (plan_of values) layers i j parts.0 in
      let within = and_parts (is_on (plan_of values).raster.across i) (is_on (plan_of values).raster.up j) on in
      let tile = place_tile (plan_of values).raster i j is.places_across is.places_up on in
      let held : IsHeldBy (plan_of values) (part_tiles values k) (part_windows (plan_of values) k) (tile_of (plan_of values).raster i j) = held_by values k (tile_of (plan_of values).raster i j) is tile (true_or (has_tile (plan_of values) k (tile_of (plan_of values).raster i j)) _ parts.1) in
      let row = place_row (plan_of values).raster i j is.places_across within.0 in
      let there = back_alone (plan_of values).raster.up (part_tiles values k) j is.places_up.step_is.least is.places_up.band_is.least rows
      (on_in (plan_of values).raster.up j is.places_up.step_is.least (on_within (plan_of values).raster.up j within.1)) (rw row at held.from) (rw row at held.to) in
      (there.low, there.high);
}
  where
    rows : AreSome (part_tiles values k) (bands (plan_of values).raster.up)
    rows = some_rows (part_tiles values k) (bands (plan_of values).raster.up) (part_chip values k is looks).rows some

pub any_size : (values : Values) → AreChipNumbers values → IsPlanOfAnySize (plan_of values)
any_size values is = record {
  axes = record { places_across = is.places_across; places_up = is.places_up; windows_across = across values.ignores; windows_up = up values.ignores };
  clip = clip values.ignores;
  spacing = is.spacing;
  fill_spacing = is.fill_spacing;
  pitch = is.pitch;
  least = is.least;
}
  where
    across : (i : Bool) → areas.IsAxis (windows_with values.numbers i).across
    across true = is.windows_across
    across false = is.windows_across

    up : (i : Bool) → areas.IsAxis (windows_with values.numbers i).up
    up true = is.windows_up
    up false = is.windows_up

    clip : (i : Bool) → IsClip (windows_with values.numbers i).clip
    clip true = record { left = is.places_across.least; across = is.places_across.ordered; right = is.places_across.most; bottom = is.places_up.least; up = is.places_up.ordered; top = is.places_up.most }
    clip false = all_clip
