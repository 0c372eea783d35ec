use Rattle.fill_raster.proofs.RasterLaws.{tiles_blocks}
use Rattle.fill_raster.proofs.laws.tiles_are_blocks.Goals as goal

pub returns : goal.returns
returns c = tiles_blocks
