use Rattle.std.proofs.Common.{◌≡◌, ◌-◌, ◌*◌, ◌<◌, ◌∙◌, ℕ, ℤ, Bool, min, ap, arith}
use Rattle.std.specs.Global.{Vec}
use Rattle.std.specs.Int.{div_ceil}
use Rattle.std.specs.List.{range_with_len}
use Rattle.std.specs.Vec.{vec_items}
use Rattle.std.proofs.lemmas.Result.{IfOk-weaker}
use Rattle.rayon.specs.Numbers.{nat_range}
use Rattle.rayon.proofs.ToStd.{nat_range-All}
use Rattle.fill_region.proofs.Collecting.{collected, range_begins}
use Rattle.fill_measure.specs.Sums.{AreSumsOf}
use Rattle.fill_report.specs.Report.{lines_above, measures_of, nothing}
use Rattle.fill_report.proofs.Lines.{parts_joined}
use Rattle.fill_report.proofs.metal.lines_by_sums.Goals as goal

pub collect-requires-clause-ready : goal.collect-requires-clause-ready
collect-requires-clause-ready g c κs within =
    let ends = c.into_par_iter.ensures in
    let n = c.len-count.result in
    let size = c.section_size-size.result in
    let count = div_ceil n size in
    let inside = nat_range-All (λ k. k * size < n) 0 count (λ k low high. range_begins n size k c.section_size-size.ensures high) in
    let all = rw c.windows.ensures at c.len-count.ensures.count in
    rw (c.map.ensures.base, c.map.ensures.f, c.with_min_len.ensures.base, ends.0, ends.1, c.div_ceil.ensures)
    (λ k d lt. ((all, (inside k d lt, c.requires.limits)), λ y h. tt))

pub returns : goal.returns
returns g c =
    let ends = c.into_par_iter.ensures in
    let windows = c.args.sums.now.windows in
    let n = c.len-count.result in
    let size = c.section_size-size.result in
    let count = div_ceil n size in
    let whole : count - 0 ≡ count = omega arith in
    let h = c.in_ok-collect.ensures in
    let chain = rw (c.map.ensures.base, c.map.ensures.f, c.with_min_len.ensures.base) at h.1 in
    let upto = ends.1 ∙ c.div_ceil.ensures in
    let below = chain.1 ∙ (λ i. nat_range (ends.0 i) (upto i)) ∙ ap (range_with_len 0) whole in
    let lines = λ (p : ℤ → ℤ → Bool) (k : ℕ). lines_above 0 windows c.args.limits (measures_of p nothing windows) (k * size) (min size (n - k * size)) in
    IfOk-weaker c.in_ok-collect.field-0 _ _ (λ v made p are.
    parts_joined windows c.args.limits (measures_of p nothing windows) size n v.items c.section_size-size.ensures made.0 (λ k d lt. made.1 k d lt p are) (rw c.windows.ensures at c.len-count.ensures.count))
    (collected vec_items (λ k (v : Vec ℕ). (p : ℤ → ℤ → Bool) → AreSumsOf p c.args.sums.now → v.items ≡ lines p k) count chain.0 h.0 c.in_ok-collect.field-0 below chain.2 h.2)
