use Rattle.fill_raster.proofs.RasterLaws.{edges_bound}
use Rattle.fill_raster.proofs.laws.tile_edges_bound_its_boxes.Goals as goal

pub returns : goal.returns
returns c = edges_bound
