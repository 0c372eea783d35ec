use Rattle.fill_raster.proofs.Reading.{bands_fit}
use Rattle.fill_raster.proofs.axis.Axis.bands.Goals as goal

pub overflow_cast-result : goal.overflow_cast-result
overflow_cast-result c = bands_fit c.args.self c.extent.result c.from.result c.div_ceil.result c.requires c.extent.ensures c.from.ensures c.div_ceil.ensures
