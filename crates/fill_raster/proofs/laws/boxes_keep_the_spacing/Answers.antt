use Rattle.fill_raster.proofs.RasterLaws.{spacing_kept}
use Rattle.fill_raster.proofs.laws.boxes_keep_the_spacing.Goals as goal

pub returns : goal.returns
returns c = spacing_kept
