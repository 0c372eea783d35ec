use Rattle.fill_raster.proofs.Reading.{band_of_fits}
use Rattle.fill_raster.proofs.axis.Axis.band_of.Goals as goal

pub overflow_cast-result : goal.overflow_cast-result
overflow_cast-result c = (band_of_fits c.args.self c.args.i c.first.result c.abs_diff.result c.from.result c.requires.axis c.requires.place c.first.ensures c.abs_diff.ensures c.from.ensures).0

pub returns : goal.returns
returns c = (band_of_fits c.args.self c.args.i c.first.result c.abs_diff.result c.from.result c.requires.axis c.requires.place c.first.ensures c.abs_diff.ensures c.from.ensures).1
