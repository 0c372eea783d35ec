use Rattle.fill_raster.proofs.Reading.{first_reckoned}
use Rattle.fill_raster.proofs.axis.Axis.first.Goals as goal

pub overflow_sub-result : goal.overflow_sub-result
overflow_sub-result c = (first_reckoned c.args.self c.div_euclid.result c.requires c.div_euclid.ensures).0

pub returns : goal.returns
returns c = (first_reckoned c.args.self c.div_euclid.result c.requires c.div_euclid.ensures).1
