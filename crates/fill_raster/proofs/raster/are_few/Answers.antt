use Rattle.fill_raster.proofs.Tiling.{places_fit}
use Rattle.fill_raster.proofs.raster.are_few.Goals as goal

pub overflow_mul-result : goal.overflow_mul-result
overflow_mul-result c = places_fit c.args.across c.args.up c.extent.result c.extent-2.result c.requires.across c.requires.up c.extent.ensures c.extent-2.ensures
