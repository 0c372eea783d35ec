-- The libraries of all parts, joined.
use Rattle.std.proofs.Common.{◌≡◌, refl, ap, ◌∙◌, ℕ, ◌<◌, ℤ, List, true, length}
use Rattle.std.proofs.Math.Path.{fun_ext}
use Rattle.std.proofs.lemmas.Bool.{and_parts}
use Rattle.fill_raster.specs.Lattice.{in_raster}
use Rattle.fill_text.specs.Rules.{Values}
use Rattle.fill_job.specs.Plans.{Plan, Layers, plan_of}
use Rattle.fill_job.specs.Searches.{some_below}
use Rattle.fill_job.proofs.Searching.{some_below_same}
use Rattle.fill_core.specs.Boxes.{low_fill}
use Rattle.fill_parts.specs.Cuts.{IsPart, Part}
use Rattle.fill_parts.specs.Laws.{part}
use Rattle.fill_parts.specs.PartFill.{part_fill}
use Rattle.fill_parts.specs.Smaller.{IsPlanOfAnySize}
use Rattle.fill_parts.proofs.Joining.{parts_fill}
use Rattle.gds_out.specs.FillText.{fill_text}
use Rattle.gds_out.specs.Places.{PlaceSet}
use Rattle.gds_join.specs.Joins.{IsPartText}
use Rattle.gds_join.specs.Laws.{AreOneFill, PartsMakeTheLibrary}
use Rattle.gds_join.proofs.Own.{text_of_part}
use Rattle.gds_join.proofs.Telling.{one_fill}

part_on : (plan : Plan) (layers : Layers) (k : Part) (i j : ℤ) → part_fill plan layers k i j ≡ true → in_raster plan.raster i j ≡ true
part_on plan layers k i j h = (and_parts (in_raster plan.raster i j) _ (and_parts _ _ (and_parts _ _ h).0).0).0

-- two libraries of a part that are the same bytes are of one fill
pub one_part_fill : (values : Values) (k : Part) (bytes units dates other others : List ℕ) (filled changed : PlaceSet) → IsPlanOfAnySize (plan_of values) → IsPart k
    → IsPartText values k units dates bytes filled → IsPartText values k other others bytes changed → AreOneFill units dates other others filled changed
one_part_fill values k bytes units dates other others filled changed plan is a b =
    one_fill a.rules bytes units dates other others filled changed
    (rw a.rules_are (text_of_part values k plan.axes.places_across plan.axes.places_up is bytes units dates filled a).0)
    (rw a.rules_are (text_of_part values k plan.axes.places_across plan.axes.places_up is bytes other others changed b).0)

pub parts_library : PartsMakeTheLibrary
parts_library values units dates layers texts out is some size len few given joined =
    let plan = plan_of values in let n = length texts in
    let one : (k : ℕ) → k < n → AreOneFill joined.units joined.dates units dates (joined.fills k) (part_fill plan layers (part k n)) =
    λ k lt.
    let text = fill_text units dates values (part_fill plan layers (part k n)) in
    let read = joined.each k text (given k lt) in
    one_part_fill values (part k n) text joined.units joined.dates units dates (joined.fills k) (part_fill plan layers (part k n)) is (record { below = lt; few = few }) read
    (record {
      rules = read.rules;
      rules_are = read.rules_are;
      is_fill = record { units_size = size; dates_size = len; on_raster = part_on plan layers (part k n); text = refl };
      own = λ i j h. (and_parts (low_fill plan layers i j) _ h).1;
    }) in
    let first = one 0 some in
    let all : (λ (i j : ℤ). some_below (λ k. joined.fills k i j) n) ≡ (λ (i j : ℤ). some_below (λ k. part_fill plan layers (part k n) i j) n) =
    fun_ext (λ i. fun_ext (λ j. some_below_same (λ k. joined.fills k i j) (λ k. part_fill plan layers (part k n) i j) n (λ k lt. ap (λ (f : PlaceSet). f i j) (one k lt).places_are))) in
    joined.text ∙ (ap (λ u. fill_text u joined.dates values (λ i j. some_below (λ k. joined.fills k i j) n)) first.units_are
    ∙ (ap (λ d. fill_text units d values (λ i j. some_below (λ k. joined.fills k i j) n)) first.dates_are
    ∙ ap (fill_text units dates values) (all ∙ parts_fill plan layers n is some)))
