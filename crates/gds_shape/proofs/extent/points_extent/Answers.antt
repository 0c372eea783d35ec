use Rattle.std.proofs.Common.{arith}
use Rattle.gds_shape.proofs.Grown.{points_step, points_end}
use Rattle.gds_shape.proofs.extent.points_extent.Goals as goal

pub points-preserved : goal.points-preserved
points-preserved c = points_step c.args.points.now c.points.point-index _ c.points.extent c.at_point.result c.joined-extent.result c.points-test.true c.at_point.ensures c.joined-extent.ensures c.points.invariant

pub returns : goal.returns
returns c = points_end c.args.points.now c.points.point-index _ c.points.extent (omega arith) c.requires c.points.invariant
