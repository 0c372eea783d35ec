use Rattle.std.proofs.Common.{◌≡◌, ◌*◌, ◌≤◌, refl, arith, ap, ◌∙◌, rules, FitsSigned, w64}
use Rattle.std.proofs.Math.Logic.{∥∥₁_elim}
use Rattle.std.proofs.Props.{props}
use Rattle.std.proofs.lemmas.List.FromFn.{length-map-range_with_len}
use Rattle.fill_area.proofs.Measuring.{area_at}
use Rattle.fill_base.proofs.Signed.{read_is}
use Rattle.fill_measure.proofs.Windowing.{areas_bounded, areas_more, merely_area}
use Rattle.fill_measure.specs.Sums.{areas_from}
use Rattle.fill_measure.proofs.sums.WindowSums.areas_from.Goals as goal

pub overflow_add-from : goal.overflow_add-from
overflow_add-from c = let few : c.args.self.now.windows.across.count * c.args.self.now.windows.up.count ≤ 1048576 = c.len.ensures.grid.few in omega (arith, c.requires, c.loop-i-test.true, few)

pub loop-i-preserved : goal.loop-i-preserved
loop-i-preserved c p are =
    let area : FitsSigned w64 c.area.result = search rules in
    areas_more p c.args.self.now.windows c.loop-i.areas.items _ c.args.from c.loop-i.i _ _ _ _ (c.loop-i.invariant p are) c.in_ok-push.ensures.items refl c.column_and_row-a.ensures.column c.column_and_row-a.ensures.row (read_is c.area.result area ∙ c.area.ensures.is p are)

pub returns-clause-areas : goal.returns-clause-areas
returns-clause-areas c p are = let all : c.loop-i.i ≡ c.args.count = omega (arith, c.loop-i-test.false, c.loop-i.auto.i-end) in c.loop-i.invariant p are ∙ ap (areas_from p c.args.self.now.windows c.args.from) all

pub returns-clause-count : goal.returns-clause-count
returns-clause-count c = ∥∥₁_elim c.args.self.now.measured (search props) (λ x.
    let all : c.loop-i.i ≡ c.args.count = omega (arith, c.loop-i-test.false, c.loop-i.auto.i-end) in
    rw (c.loop-i.invariant x.0 x.1) (length-map-range_with_len (area_at x.0 c.args.self.now.windows) c.args.from c.loop-i.i ∙ all))

pub returns-clause-bounded : goal.returns-clause-bounded
returns-clause-bounded c k d lt = merely_area c.args.self.now.measured (λ x. areas_bounded x.0 c.args.self.now.windows c.loop-i.areas.items c.args.from c.loop-i.i c.len.ensures.grid (omega (arith, c.requires, c.loop-i.auto.i-end)) (c.loop-i.invariant x.0 x.1) k d lt)
