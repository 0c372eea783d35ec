use Rattle.fill_core.proofs.Replays.{fill_of_tiles}
use Rattle.fill_core.proofs.laws.fill_is_that_of_its_tiles.Goals as goal

pub returns : goal.returns
returns c = fill_of_tiles
