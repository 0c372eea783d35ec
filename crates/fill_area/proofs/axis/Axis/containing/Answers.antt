use Rattle.fill_area.proofs.Begun.{containing_read}
use Rattle.fill_area.proofs.axis.Axis.containing.Goals as goal

pub returns : goal.returns
returns c = containing_read c.args.self.first c.args.self.length c.args.self.step c.args.lo c.args.hi c.args.self.count c.begun_below-start.result c.begun_below.result c.max.result c.requires.axis c.requires.low c.requires.high c.begun_below-start.ensures c.begun_below.ensures c.max.ensures
