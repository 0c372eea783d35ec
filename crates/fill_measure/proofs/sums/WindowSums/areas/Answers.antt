use Rattle.std.proofs.Common.{◌≡◌, ◌-◌, ◌*◌, ◌<◌, ◌∙◌, ap, arith}
use Rattle.std.specs.List.{range_with_len}
use Rattle.std.proofs.lemmas.Result.{IfOk-weaker}
use Rattle.rayon.specs.Numbers.{nat_range}
use Rattle.rayon.proofs.ListFacts.{AllZip-weaken}
use Rattle.rayon.proofs.ToStd.{nat_range-All}
use Rattle.fill_measure.proofs.Windowing.{all_bounded, all_measured, found_in_order, merely_area}
use Rattle.fill_measure.proofs.sums.WindowSums.areas.Goals as goal

pub collect-requires-clause-ready : goal.collect-requires-clause-ready
collect-requires-clause-ready g c κs within =
    let windows = c.args.self.now.windows in
    let ends = c.into_par_iter.ensures in
    let count = windows.across.count * windows.up.count in
    let inside = nat_range-All (λ i. i < count) 0 count (λ i low high. high) in
    rw (c.map.ensures.base, c.map.ensures.f, ends.0, ends.1, c.len.ensures.count) (λ k d lt. (inside k d lt, λ y h. tt))

pub returns-clause-areas : goal.returns-clause-areas
returns-clause-areas g c = IfOk-weaker c.collect.result _ _ (λ v h p are.
    let windows = c.args.self.now.windows in
    let ends = c.into_par_iter.ensures in
    let n = c.len.result in
    let whole : n - 0 ≡ n = omega arith in
    let chain = rw (c.map.ensures.base, c.map.ensures.f) at h.1 in
    let below = chain.1 ∙ (λ i. nat_range (ends.0 i) (ends.1 i)) ∙ ap (range_with_len 0) whole in
    let found = found_in_order p windows n chain.0 h.0 below (AllZip-weaken _ _ (λ k area is. is p are) chain.0 h.0 chain.2) in
    all_measured p windows v.items n c.len.ensures.grid c.len.ensures.count (h.2 ∙ found)) c.collect.ensures

pub returns-clause-bounded : goal.returns-clause-bounded
returns-clause-bounded g c = IfOk-weaker c.collect.result _ _ (λ v h k d lt. merely_area c.args.self.now.measured (λ x.
    let windows = c.args.self.now.windows in
    let ends = c.into_par_iter.ensures in
    let n = c.len.result in
    let whole : n - 0 ≡ n = omega arith in
    let chain = rw (c.map.ensures.base, c.map.ensures.f) at h.1 in
    let below = chain.1 ∙ (λ i. nat_range (ends.0 i) (ends.1 i)) ∙ ap (range_with_len 0) whole in
    let found = found_in_order x.0 windows n chain.0 h.0 below (AllZip-weaken _ _ (λ k area is. is x.0 x.1) chain.0 h.0 chain.2) in
    all_bounded x.0 windows v.items n c.len.ensures.grid c.len.ensures.count (h.2 ∙ found) k d lt)) c.collect.ensures
