use Rattle.fill_core.proofs.Counts.{count_placed}
use Rattle.fill_core.proofs.laws.count_is_placed_less_withdrawn.Goals as goal

pub returns : goal.returns
returns c = count_placed
