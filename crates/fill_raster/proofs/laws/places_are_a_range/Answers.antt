use Rattle.fill_raster.proofs.RasterLaws.{places_range}
use Rattle.fill_raster.proofs.laws.places_are_a_range.Goals as goal

pub returns : goal.returns
returns c = places_range
