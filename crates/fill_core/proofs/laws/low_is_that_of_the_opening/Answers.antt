use Rattle.fill_core.proofs.Replays.{low_of_opening}
use Rattle.fill_core.proofs.laws.low_is_that_of_the_opening.Goals as goal

pub returns : goal.returns
returns c = low_of_opening
