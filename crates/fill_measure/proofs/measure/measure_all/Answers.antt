use Rattle.std.proofs.Common.{◌∙◌, subst, ap}
use Rattle.std.specs.List.{flat_map}
use Rattle.std.specs.Vec.{vec_items}
use Rattle.std.proofs.lemmas.List.{append-nil}
use Rattle.std.proofs.lemmas.Result.{IfOk-weaker}
use Rattle.std.proofs.Math.Path.{fun_ext}
use Rattle.fill_area.specs.Density.{AreMeasured}
use Rattle.fill_region.specs.Runs.{holds}
use Rattle.fill_region.specs.Squares.{covered}
use Rattle.fill_measure.specs.Sums.{AreSumsOf}
use Rattle.fill_measure.proofs.measure.measure_all.Goals as goal

pub returns-clause-areas : goal.returns-clause-areas
returns-clause-areas g c =
    let p = holds c.args.region.now in
    let same = ap (λ lists. covered (flat_map vec_items lists)) c.from_ref.ensures.value ∙ (ap covered (append-nil c.in_ok-runs.runs.items) ∙ fun_ext (λ x. fun_ext (λ y. c.in_ok-runs.ensures.cover x y))) in
    let sums = subst (λ q. AreSumsOf q c.in_ok-sum_rects.field-0) same c.in_ok-sum_rects.ensures.sums in
    IfOk-weaker c.areas.result _ _ (λ v are. subst (λ w. AreMeasured p w v.items) c.in_ok-sum_rects.ensures.windows (are p sums)) c.areas.ensures.areas
