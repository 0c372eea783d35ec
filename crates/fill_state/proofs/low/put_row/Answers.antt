use Rattle.std.proofs.Common.{◌≡◌, ◌∙◌, ap, sym, arith}
use Rattle.std.proofs.lemmas.Result.{on_ok_weaker}
use Rattle.fill_base.proofs.Signed.{read_is}
use Rattle.fill_area.specs.declared.axis.Axis.{Axis}
use Rattle.fill_state.proofs.LowRuns.{none_so_far, one_low, one_not_low, row_in}
use Rattle.fill_state.proofs.low.put_row.Goals as goal
use Rattle.fill_state.proofs.low.put_row.Goals.{then-not-is_low_at+in_ok-put_run, else-not-is_low_at}

pub loop-column-init : goal.loop-column-init
loop-column-init c = rw (read_is c.args.least c.ranges.least) (none_so_far c.args.windows.now c.args.least c.args.totals.now c.args.row c.args.low.now.items c.requires.before)

pub loop-column-preserved : goal.loop-column-preserved
loop-column-preserved c =
    let g = c.args.windows.now in let totals = c.args.totals.now in let column = c.loop-column.column in
    elim c.if-not-is_low_at.branch [
      | then-not-is_low_at+in_ok-put_run w ↦
          rw (w.low-is, w.start-is) (one_not_low g _ totals c.loop-column.start column c.args.row c.loop-column.low.items _ (sym c.is_low_at.ensures ∙ w.if-not-is_low_at.true) c.loop-column.invariant w.in_ok-put_run.ensures)
      | else-not-is_low_at w ↦
          rw (w.low-is, w.start-is) (one_low g _ totals c.loop-column.start column c.args.row c.loop-column.low.items (sym c.is_low_at.ensures ∙ w.if-not-is_low_at.false) c.loop-column.invariant)
    ]

pub returns : goal.returns
returns c =
    let g = c.args.windows.now in
    let columns : c.across-columns.result.count ≡ g.across.count = ap (λ (a : Axis). a.count) c.across-columns.ensures.value in
    let last : c.loop-column.column ≡ g.across.count = omega (arith, c.loop-column-test.false, c.loop-column.auto.column-end) in
    let same : c.across-columns.result.count ≡ c.loop-column.column = omega arith in
    let so_far = rw (read_is c.args.least c.ranges.least) at c.loop-column.invariant in
    on_ok_weaker c.put_run-2.result (λ with. row_in g c.args.least c.args.totals.now c.loop-column.start c.loop-column.column c.args.row c.loop-column.low.items c.put_run-2.new.low.items last so_far (rw same at with)) c.put_run-2.ensures
