use Rattle.fill_raster.proofs.Reading.{extent_is}
use Rattle.fill_raster.proofs.axis.Axis.extent.Goals as goal

pub returns : goal.returns
returns c = extent_is c.args.self c.past.result c.first.result c.abs_diff.result c.requires c.past.ensures c.first.ensures c.abs_diff.ensures
