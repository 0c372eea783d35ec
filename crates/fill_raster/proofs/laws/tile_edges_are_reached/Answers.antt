use Rattle.fill_raster.proofs.RasterLaws.{edges_reached}
use Rattle.fill_raster.proofs.laws.tile_edges_are_reached.Goals as goal

pub returns : goal.returns
returns c = edges_reached
