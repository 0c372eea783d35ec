use Rattle.fill_stacks.proofs.Bounds.{on_the_raster}
use Rattle.fill_stacks.proofs.laws.stacks_are_on_the_raster.Goals as goal

pub returns : goal.returns
returns c = on_the_raster
