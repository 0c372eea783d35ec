use Rattle.fill_raster.proofs.RasterLaws.{places_counted}
use Rattle.fill_raster.proofs.laws.places_are_counted.Goals as goal

pub returns : goal.returns
returns c = places_counted
