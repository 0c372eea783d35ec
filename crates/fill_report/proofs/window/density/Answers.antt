use Rattle.std.proofs.Common.{rules, FitsSigned, w64}
use Rattle.fill_report.proofs.Densities.{is_high, is_within}
use Rattle.fill_report.proofs.window.density.Goals as goal

pub returns-then-is_high : goal.returns-then-is_high
returns-then-is_high c =
    let least : FitsSigned w64 c.args.limits.least = search rules in
    let most : FitsSigned w64 c.args.limits.most = search rules in
    is_high c.args.total c.args.limits c.args.size c.is_low.result c.is_high.result c.ranges.total least most c.ranges.size c.is_low.ensures c.if-is_low.false c.is_high.ensures c.if-is_high.true

pub returns-else-is_high : goal.returns-else-is_high
returns-else-is_high c =
    let least : FitsSigned w64 c.args.limits.least = search rules in
    let most : FitsSigned w64 c.args.limits.most = search rules in
    is_within c.args.total c.args.limits c.args.size c.is_low.result c.is_high.result c.ranges.total least most c.ranges.size c.is_low.ensures c.if-is_low.false c.is_high.ensures c.if-is_high.false
