use Rattle.std.proofs.Common.{◌∙◌}
use Rattle.std.proofs.lemmas.Result.{IfOk-weaker}
use Rattle.fill_base.proofs.Signed.{read_is}
use Rattle.fill_job.specs.Plans.{plan_of}
use Rattle.fill_book.specs.Standing.{squares_left}
use Rattle.fill_book.proofs.Measured.{low_measured}
use Rattle.fill_book.proofs.running.SumsTotals.low.Goals as goal

pub returns : goal.returns
returns c =
    let plan = plan_of c.args.rules.now in
    let low = rw (c.windows.ensures, read_is c.min.result (record { sfits = c.min.type_inv }), c.min.ensures.value, c.totals.ensures.totals) at c.low_windows.ensures in
    IfOk-weaker c.low_windows.result _ _ (λ r is a b. is a b ∙ low_measured plan (squares_left c.args._stored.now c.args._edited.now) c.args.self.now.total a b c.requires.stands.total) low
