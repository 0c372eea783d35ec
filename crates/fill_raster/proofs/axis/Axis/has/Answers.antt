use Rattle.fill_raster.proofs.Reading.{has_reckoned}
use Rattle.fill_raster.proofs.axis.Axis.has.Goals as goal

pub returns : goal.returns
returns c = has_reckoned c.args.self c.args.i c.first.result c.past.result c.requires c.ranges.i c.first.ensures c.past.ensures
