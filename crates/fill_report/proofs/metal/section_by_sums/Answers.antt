use Rattle.std.proofs.Common.{ap, ◌∙◌}
use Rattle.std.proofs.lemmas.Result.{IfOk-weaker}
use Rattle.fill_report.specs.Report.{lines_above, measures_of, nothing}
use Rattle.fill_report.proofs.Lines.{sums_drawn}
use Rattle.fill_report.proofs.metal.section_by_sums.Goals as goal

pub returns : goal.returns
returns c =
    let windows = c.args.sums.now.windows in
    IfOk-weaker c.lines_of.result _ _ (λ v is p are.
    is (measures_of p nothing windows) (sums_drawn p windows c.in_ok-areas.areas.items c.args.section.from c.args.section.count c.in_ok-areas.ensures.grid (c.in_ok-areas.ensures.areas p are))
    ∙ ap (lines_above c.args.section.above windows c.args.limits (measures_of p nothing windows) c.args.section.from) c.in_ok-areas.ensures.count)
    (rw (c.windows.ensures, c.deref.ensures.value) at c.lines_of.ensures)
