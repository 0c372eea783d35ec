use Rattle.std.proofs.Common.{◌≡◌, ap, arith}
use Rattle.fill_base.proofs.Signed.{read_is}
use Rattle.fill_area.specs.declared.axis.Axis.{Axis}
use Rattle.fill_state.proofs.LowRuns.{all_low, none_low}
use Rattle.fill_state.proofs.low.low_runs.Goals as goal

pub loop-row-init : goal.loop-row-init
loop-row-init c = rw c.new-low.ensures.items (none_low c.args.windows.now _ c.args.totals.now)

pub returns : goal.returns
returns c =
    let rows : c.up-row-end.result.count ≡ c.args.windows.now.up.count = ap (λ (a : Axis). a.count) c.up-row-end.ensures.value in
    let last : c.loop-row.row ≡ c.args.windows.now.up.count = omega (arith, c.loop-row-test.false, c.loop-row.auto.row-end) in
    all_low c.args.windows.now c.args.least c.args.totals.now c.loop-row.row c.loop-row.low.items last (rw (read_is c.args.least c.ranges.least) at c.loop-row.invariant)
