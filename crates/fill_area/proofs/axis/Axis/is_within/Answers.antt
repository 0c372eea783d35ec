use Rattle.std.proofs.Common.{rules, w64, FitsSigned}
use Rattle.fill_base.proofs.Signed.{read_is}
use Rattle.fill_area.proofs.GridTests.{limited, axis_test}
use Rattle.fill_area.proofs.axis.Axis.is_within.Goals as goal

pub returns : goal.returns
returns c =
    let axis = c.args.self in
    let first : FitsSigned w64 axis.first = search rules in
    let length : FitsSigned w64 axis.length = search rules in
    let step : FitsSigned w64 axis.step = search rules in
    axis_test axis.first axis.length axis.step axis.count c.last_end.result
    (limited axis.first axis.length axis.step axis.count _ _ _ _ (rw (read_is _ length) at c.is_length.ensures) (rw (read_is _ step) at c.is_length-2.ensures) c.is_count.ensures (rw (read_is _ first) at c.is_coordinate.ensures) c.if-not-is_length-is_count.false)
    c.last_end.ensures
