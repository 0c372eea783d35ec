use Rattle.fill_raster.proofs.RasterLaws.{place_has_a_tile}
use Rattle.fill_raster.proofs.laws.each_place_has_a_tile.Goals as goal

pub returns : goal.returns
returns c = place_has_a_tile
