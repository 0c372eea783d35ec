use Rattle.std.proofs.Common.{arith}
use Rattle.gds_shape.proofs.Spread.{zero_bounds}
use Rattle.gds_shape.proofs.Grown.{bounds_step, bounds_end}
use Rattle.gds_shape.proofs.extent.bounds_extent.Goals as goal

pub all-preserved : goal.all-preserved
all-preserved c = bounds_step c.args.all.now c.all.bounds-index zero_bounds c.all.extent c.joined-extent.result c.all-test.true c.joined-extent.ensures c.all.invariant

pub returns : goal.returns
returns c = bounds_end c.args.all.now c.all.bounds-index zero_bounds c.all.extent (omega arith) c.requires c.all.invariant
