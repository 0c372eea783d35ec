-- A part's fill and its lines, by its smaller chip.
use Rattle.std.proofs.Common.{◌≡◌, sym, ap, ◌∙◌, ℕ, ◌+◌, ◌-◌, ◌≤◌, ◌<◌, arith, true, ◌&&◌}
use Rattle.std.proofs.lemmas.Bool.{and_from, and_parts}
use Rattle.fill_raster.specs.Axes.{band_of, bands, is_on}
use Rattle.fill_raster.specs.Lattice.{in_raster, tile_of}
use Rattle.fill_raster.proofs.Ranges.{both}
use Rattle.fill_text.specs.Rules.{Values}
use Rattle.fill_job.specs.Plans.{drawn_squares, plan_of}
use Rattle.fill_core.specs.Boxes.{low_fill}
use Rattle.fill_report.specs.BookReport.{boxes_of}
use Rattle.fill_report.specs.Report.{measures_of}
use Rattle.fill_parts.specs.Cuts.{Part, has_row}
use Rattle.fill_parts.specs.Laws.{PartFillIsOfItsChip, PartLinesAreOfItsChip}
use Rattle.fill_parts.specs.Needs.{has_tile, has_windows, is_level}
use Rattle.fill_parts.specs.PartChip.{IsChipOf, chip_plan, part_tiles, part_windows}
use Rattle.fill_parts.specs.PartFill.{part_fill}
use Rattle.fill_parts.specs.Smaller.{AreAxes, AreSome, IsSmaller}
use Rattle.fill_parts.proofs.Leveling.{place_row, place_tile}
use Rattle.fill_parts.proofs.Lines.{lines_by}
use Rattle.fill_parts.proofs.Looking.{chip_windows, held_by, level_needed, part_chip, some_rows, true_or}
use Rattle.fill_parts.proofs.RulesAlone.{smaller_chip}
use Rattle.fill_parts.proofs.WindowsAlone.{filled_alike, filled_on, measures_same, on_whole}

pub chip_smaller : (values : Values) (k : Part) → AreAxes (plan_of values) → IsChipOf values k → IsSmaller (plan_of values) (chip_plan values k) (part_tiles values k) (part_windows (plan_of values) k)
chip_smaller values k axes chip = smaller_chip values (part_tiles values k) (part_windows (plan_of values) k) axes chip.rows chip.windows chip.cover

pub fill_of_chip : PartFillIsOfItsChip
fill_of_chip values k layers axes some looks i j = both _ _ into back
  where
    chip : IsChipOf values k
    chip = part_chip values k axes looks

    rows : AreSome (part_tiles values k) (bands (plan_of values).raster.up)
    rows = some_rows (part_tiles values k) (bands (plan_of values).raster.up) chip.rows some

    alike : in_raster (plan_of values).raster i j ≡ true → has_tile (plan_of values) k (tile_of (plan_of values).raster i j) ≡ true → low_fill (chip_plan values k) layers i j ≡ low_fill (plan_of values) layers i j
    alike on own =
        let plan = plan_of values in let tile = tile_of plan.raster i j in
        (filled_alike plan (chip_plan values k) (part_tiles values k) (part_windows plan k) layers axes rows chip.windows.within (chip_smaller values k axes chip) i j on
        (held_by values k tile axes (place_tile plan.raster i j axes.places_across axes.places_up on) (true_or (has_tile plan k tile) _ own))).filled

    row : in_raster (plan_of values).raster i j ≡ true → has_tile (plan_of values) k (tile_of (plan_of values).raster i j) ≡ has_row k (bands (plan_of values).raster.up) (band_of (plan_of values).raster.up j)
    row on = ap (has_row k (bands (plan_of values).raster.up)) (place_row (plan_of values).raster i j axes.places_across (and_parts (is_on (plan_of values).raster.across i) _ on).0)

    into : part_fill (plan_of values) layers k i j ≡ true → (low_fill (chip_plan values k) layers i j && has_row k (bands (plan_of values).raster.up) (band_of (plan_of values).raster.up j)) ≡ true
    into is =
        let parts = and_parts (low_fill (plan_of values) layers i j) (has_tile (plan_of values) k (tile_of (plan_of values).raster i j)) is in
        let on = filled_on (plan_of values) layers i j parts.0 in
        and_from _ _ (alike on parts.1 ∙ parts.0) (sym (row on) ∙ parts.1)

    back : (low_fill (chip_plan values k) layers i j && has_row k (bands (plan_of values).raster.up) (band_of (plan_of values).raster.up j)) ≡ true → part_fill (plan_of values) layers k i j ≡ true
    back is =
        let parts = and_parts (low_fill (chip_plan values k) layers i j) _ is in
        let on = on_whole (plan_of values) (chip_plan values k) (part_tiles values k) (part_windows (plan_of values) k) axes rows (chip_smaller values k axes chip) i j (filled_on (chip_plan values k) layers i j parts.0) in
        let own = row on ∙ parts.1 in
        and_from _ _ (sym (alike on own) ∙ parts.0) own

pub lines_of_chip : PartLinesAreOfItsChip
lines_of_chip values k layers axes part some looks =
    lines_by values k (measures_of (drawn_squares layers) (boxes_of (plan_of values) (low_fill (plan_of values) layers)) (plan_of values).windows)
    (λ a b. measures_of (drawn_squares layers) (boxes_of (chip_plan values k) (low_fill (chip_plan values k) layers)) (chip_plan values k).windows a (b - (part_windows (plan_of values) k).from)) axes.windows_across.count_is.least part
    (λ a b column below own.
    let plan = plan_of values in
    let chip : IsChipOf values k = part_chip values k axes looks in
    let rows = some_rows (part_tiles values k) (bands (plan_of values).raster.up) chip.rows some in
    let is = chip_smaller values k axes chip in
    let row = chip_windows plan k b below (true_or (has_windows plan k b) _ own) in
    let back : (part_windows plan k).from + (b - (part_windows plan k).from) ≡ b = there b (part_windows plan k).from row.0 in
    let inside : b - (part_windows plan k).from < (chip_plan values k).windows.up.count = rw is.rows (less b (part_windows plan k).from (part_windows plan k).to row.0 row.1) in
    sym (measures_same plan (chip_plan values k) (part_tiles values k) (part_windows plan k) layers axes rows chip.windows.within is a (b - (part_windows plan k).from) inside
    (λ tile lt level. held_by values k tile axes lt (level_needed plan k tile b axes own (ap (is_level plan tile) (sym back) ∙ level)))
    ∙ ap (λ n. measures_of (drawn_squares layers) (boxes_of plan (low_fill plan layers)) plan.windows a n) back))
  where
    there : (b f : ℕ) → f ≤ b → f + (b - f) ≡ b
    there b f le = omega (arith, le)

    less : (b f t : ℕ) → f ≤ b → b < t → b - f < t - f
    less b f t le lt = omega (arith, le, lt)
