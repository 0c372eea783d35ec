use Rattle.std.proofs.Common.{◌∙◌}
use Rattle.std.proofs.lemmas.Result.{IfOk-weaker}
use Rattle.fill_base.proofs.Signed.{read_is}
use Rattle.fill_job.specs.Plans.{plan_of}
use Rattle.fill_book.specs.Standing.{squares_left}
use Rattle.fill_book.proofs.Measured.{low_measured}
use Rattle.fill_book.proofs.anew.MeasuredTotals.low.Goals as goal

pub low_windows-requires-clause-areas : goal.low_windows-requires-clause-areas
low_windows-requires-clause-areas c = rw c.deref.ensures.value c.in_ok-totals.ensures.bounded

pub returns : goal.returns
returns c =
    let plan = plan_of c.args.rules.now in
    let low = rw (c.windows-windows.ensures, read_is c.min.result (record { sfits = c.min.type_inv }), c.min.ensures.value, c.deref.ensures.value) at c.low_windows.ensures in
    let areas = rw c.windows-windows.ensures at c.in_ok-totals.ensures.areas in
    IfOk-weaker c.low_windows.result _ _ (λ r is a b. is a b ∙ low_measured plan (squares_left c.args.stored.now c.args.edited.now) c.in_ok-totals.totals.items a b areas) low
