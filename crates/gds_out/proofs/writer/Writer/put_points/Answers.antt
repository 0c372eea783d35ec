use Rattle.std.proofs.Common.{◌∙◌}
use Rattle.gds_out.proofs.Appending.{body_short, body_even}
use Rattle.gds_out.proofs.writer.Writer.put_points.Goals as goal

pub put_record-requires-clause-short : goal.put_record-requires-clause-short
put_record-requires-clause-short c = body_short c.args.points.now c.loop-point.point-index c.deref.result.now (c.deref.ensures.value ∙ c.loop-point.invariant.points) c.requires.few

pub put_record-requires-clause-even : goal.put_record-requires-clause-even
put_record-requires-clause-even c = body_even c.args.points.now c.loop-point.point-index c.deref.result.now (c.deref.ensures.value ∙ c.loop-point.invariant.points)
