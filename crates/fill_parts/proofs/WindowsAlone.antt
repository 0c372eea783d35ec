-- What windows measure in a chip of some rows alone.
use Rattle.std.proofs.Common.{◌≡◌, refl, sym, ap, ◌∙◌, ℕ, ◌+◌, ◌≤◌, ◌<◌, ℤ, pos, ◌≤ℤ◌, ◌<ℤ◌, Bool, true, ◌&&◌, ◌||◌}
use Rattle.std.specs.Prelude.{not}
use Rattle.std.proofs.lemmas.Bool.{and_from, and_parts}
use Rattle.fill_area.specs.Grid.{window_bottom, window_top}
use Rattle.fill_raster.specs.Axes.{bands, band_of, first, is_on, past}
use Rattle.fill_raster.specs.Lattice.{Lattice, in_raster, box_squares, tile_of, tiles}
use Rattle.fill_raster.proofs.Ranges.{both, first_past, in_on, on_in, on_within, within_on}
use Rattle.fill_job.specs.Plans.{Plan, Layers, PointSet, drawn_squares, in_window_of, is_taken, low_windows}
use Rattle.fill_size.specs.Distance.{HasSquare}
use Rattle.fill_job.specs.Searches.{some_within}
use Rattle.fill_job.proofs.Conflicts.{some_within_decides}
use Rattle.fill_core.specs.Boxes.{low_fill}
use Rattle.fill_report.specs.BookReport.{boxes_of}
use Rattle.fill_parts.specs.Laws.{SmallerChipMeasuresTheSame}
use Rattle.fill_parts.specs.Needs.{is_level, row_of}
use Rattle.fill_parts.specs.Smaller.{AreAxes, Rows, AreSome, IsHeldBy, IsSmaller, bands_alone}
use Rattle.fill_parts.proofs.Agreeing.{window_same}
use Rattle.fill_parts.proofs.BandsAlone.{back_alone}
use Rattle.fill_parts.proofs.Leveling.{level_holding, level_meeting, place_row, place_tile}
use Rattle.fill_parts.proofs.Lines.{same_measures}
use Rattle.fill_parts.proofs.RowsAlone.{area_alone, banded, in_low_alone, on_alone, taken_alone}

-- a place of a tile of those rows is one of the smaller chip, and filled there where it is filled in the whole one
pub record IsFilledAlike (whole small : Plan) (layers : Layers) (i j : ℤ) : Type 0 where
  pub there : in_raster small.raster i j ≡ true
  pub filled : low_fill small layers i j ≡ low_fill whole layers i j

alike : (o p a b c d : Bool) → o ≡ true → p ≡ true → a ≡ c → b ≡ d → (o && not a) && b ≡ (p && not c) && d
alike o p a b c d on there taken low = rw (on, there, taken, low) refl

pub filled_alike : (whole small : Plan) (rows windows : Rows) (layers : Layers) → AreAxes whole → AreSome rows (bands whole.raster.up) → windows.to ≤ whole.windows.up.count → IsSmaller whole small rows windows
    → (i j : ℤ) → in_raster whole.raster i j ≡ true → IsHeldBy whole rows windows (tile_of whole.raster i j) → IsFilledAlike whole small layers i j
filled_alike whole small rows windows layers plan are within is i j on held = record {
  there = here;
  filled = alike (in_raster small.raster i j) (in_raster r i j) (is_taken small layers i j) (in_window_of small (low_windows small (drawn_squares layers)) i j) (is_taken whole layers i j) (in_window_of whole (low_windows whole (drawn_squares layers)) i j)
      here on (taken_alone whole small rows windows layers is i j) (in_low_alone whole small rows windows (drawn_squares layers) is within i j (λ a b column row holds.
      held.level b row (level_holding whole a b i j plan on holds)));
}
  where
    r : Lattice
    r = whole.raster

    up : (is_on r.across i ≡ true) × (is_on r.up j ≡ true)
    up = and_parts (is_on r.across i) (is_on r.up j) on

    row : row_of r (tile_of r i j) ≡ band_of r.up j
    row = place_row r i j plan.places_across up.0

    here : in_raster small.raster i j ≡ true
    here = rw (is.across, is.up) (and_from _ _ up.0 (within_on (bands_alone r.up rows) j (in_on (bands_alone r.up rows) j plan.places_up.step_is.least
        (back_alone r.up rows j plan.places_up.step_is.least plan.places_up.band_is.least are (on_in r.up j plan.places_up.step_is.least (on_within r.up j up.1)) (rw row at held.from) (rw row at held.to)))))

-- a place of the raster lies between its first and its last one
place_between : (r : Lattice) (p : PointSet) (i j : ℤ) → pos 1 ≤ℤ r.across.step → pos 1 ≤ℤ r.up.step → in_raster r i j ≡ true → p i j ≡ true → HasSquare p (first r.across) (first r.up) (past r.across) (past r.up)
place_between r p i j across up on holds =
    let parts = and_parts (is_on r.across i) (is_on r.up j) on in
    let x = on_in r.across i across (on_within r.across i parts.0) in
    let y = on_in r.up j up (on_within r.up j parts.1) in
    record { x = i; y = j; square = holds; from_left = x.low; to_right = x.high; from_bottom = y.low; to_top = y.high }

place_found : (r : Lattice) (p : PointSet) → some_within p (first r.across) (first r.up) (past r.across) (past r.up) ≡ true → HasSquare p (first r.across) (first r.up) (past r.across) (past r.up)
place_found r p is = (some_within_decides p (first r.across) (first r.up) (past r.across) (past r.up) (first_past r.across) (first_past r.up)).0 is

place_there : (r : Lattice) (p : PointSet) → HasSquare p (first r.across) (first r.up) (past r.across) (past r.up) → some_within p (first r.across) (first r.up) (past r.across) (past r.up) ≡ true
place_there r p is = (some_within_decides p (first r.across) (first r.up) (past r.across) (past r.up) (first_past r.across) (first_past r.up)).1 is

-- a filled place is on the raster
pub filled_on : (plan : Plan) (layers : Layers) (i j : ℤ) → low_fill plan layers i j ≡ true → in_raster plan.raster i j ≡ true
filled_on plan layers i j is = (and_parts (in_raster plan.raster i j) _ (and_parts _ _ is).0).0

-- a place of the smaller chip is one of the whole one
pub on_whole : (whole small : Plan) (rows windows : Rows) → AreAxes whole → AreSome rows (bands whole.raster.up) → IsSmaller whole small rows windows → (i j : ℤ) → in_raster small.raster i j ≡ true → in_raster whole.raster i j ≡ true
on_whole whole small rows windows plan are is i j on =
    let up : (is_on whole.raster.across i && is_on (bands_alone whole.raster.up rows) j) ≡ true = rw (is.across, is.up) at on in
    let both = and_parts (is_on whole.raster.across i) (is_on (bands_alone whole.raster.up rows) j) up in
    and_from _ _ both.0 (on_alone whole.raster.up rows j (banded whole.raster.up plan.places_up) are both.1)

boxes_alone : (whole small : Plan) (rows windows : Rows) (layers : Layers) → AreAxes whole → AreSome rows (bands whole.raster.up) → windows.to ≤ whole.windows.up.count → IsSmaller whole small rows windows
    → (b : ℕ) (x y : ℤ) → ((tile : ℕ) → tile < tiles whole.raster → is_level whole tile b ≡ true → IsHeldBy whole rows windows tile) → window_bottom whole.windows b ≤ℤ y → y <ℤ window_top whole.windows b
    → boxes_of small (low_fill small layers) x y ≡ boxes_of whole (low_fill whole layers) x y
boxes_alone whole small rows windows layers plan are within is b x y held low high = both _ _ into back
  where
    here : PointSet
    here i j = low_fill small layers i j && box_squares small.raster i j x y

    there : PointSet
    there i j = low_fill whole layers i j && box_squares whole.raster i j x y

    same_box : (i j : ℤ) → box_squares small.raster i j x y ≡ box_squares whole.raster i j x y
    same_box i j = rw (is.across, is.up) refl

    filled : (i j : ℤ) → in_raster whole.raster i j ≡ true → box_squares whole.raster i j x y ≡ true → IsFilledAlike whole small layers i j
    filled i j on box = filled_alike whole small rows windows layers plan are within is i j on
        (held (tile_of whole.raster i j) (place_tile whole.raster i j plan.places_across plan.places_up on) (level_meeting whole b i j x y plan on low high box))

    into : boxes_of small (low_fill small layers) x y ≡ true → boxes_of whole (low_fill whole layers) x y ≡ true
    into some =
        let found = place_found small.raster here some in
        let parts = and_parts (low_fill small layers found.x found.y) (box_squares small.raster found.x found.y x y) found.square in
        let on = on_whole whole small rows windows plan are is found.x found.y (filled_on small layers found.x found.y parts.0) in
        let box = sym (same_box found.x found.y) ∙ parts.1 in
        place_there whole.raster there (place_between whole.raster there found.x found.y plan.places_across.step_is.least plan.places_up.step_is.least on (and_from _ _ (sym (filled found.x found.y on box).filled ∙ parts.0) box))

    back : boxes_of whole (low_fill whole layers) x y ≡ true → boxes_of small (low_fill small layers) x y ≡ true
    back some =
        let found = place_found whole.raster there some in
        let parts = and_parts (low_fill whole layers found.x found.y) (box_squares whole.raster found.x found.y x y) found.square in
        let f = filled found.x found.y (filled_on whole layers found.x found.y parts.0) parts.1 in
        place_there small.raster here (place_between small.raster here found.x found.y (rw is.across plan.places_across.step_is.least) (rw is.up plan.places_up.step_is.least) f.there (and_from _ _ (f.filled ∙ parts.0) (same_box found.x found.y ∙ parts.1)))

pub measures_same : SmallerChipMeasuresTheSame
measures_same whole small rows windows layers plan are within is a b lt held =
    let w = whole.windows in
    let row = windows.from + b in
    let u = boxes_of small (low_fill small layers) in
    let v = boxes_of whole (low_fill whole layers) in
    let boxes = λ (x y : ℤ) (low : window_bottom w row ≤ℤ y) (high : y <ℤ window_top w row). boxes_alone whole small rows windows layers plan are within is row x y held low high in
    same_measures _ _
    (ap pos (area_alone whole small rows windows (drawn_squares layers) is a b lt))
    (ap pos (area_alone whole small rows windows u is a b lt ∙ window_same u v w a row plan.windows_across.length_is plan.windows_up.length_is (λ x y left right low high. boxes x y low high)))
    (ap pos (area_alone whole small rows windows (λ x y. drawn_squares layers x y || u x y) is a b lt
    ∙ window_same (λ x y. drawn_squares layers x y || u x y) (λ x y. drawn_squares layers x y || v x y) w a row plan.windows_across.length_is plan.windows_up.length_is (λ x y left right low high. rw (boxes x y low high) refl)))
