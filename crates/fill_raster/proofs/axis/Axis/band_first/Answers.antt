use Rattle.fill_raster.proofs.Reading.{band_first_reckoned}
use Rattle.fill_raster.proofs.axis.Axis.band_first.Goals as goal

pub overflow_mul-result : goal.overflow_mul-result
overflow_mul-result c = (band_first_reckoned c.args.self c.args.g c.first.result c.from.result c.from-2.result c.requires.axis c.requires.index c.first.ensures c.from.ensures c.from-2.ensures).2

pub overflow_add-result : goal.overflow_add-result
overflow_add-result c = (band_first_reckoned c.args.self c.args.g c.first.result c.from.result c.from-2.result c.requires.axis c.requires.index c.first.ensures c.from.ensures c.from-2.ensures).0

pub returns : goal.returns
returns c = (band_first_reckoned c.args.self c.args.g c.first.result c.from.result c.from-2.result c.requires.axis c.requires.index c.first.ensures c.from.ensures c.from-2.ensures).1
