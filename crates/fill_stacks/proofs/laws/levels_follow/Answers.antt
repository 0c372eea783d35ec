use Rattle.fill_stacks.proofs.Folds.{levels_row}
use Rattle.fill_stacks.proofs.laws.levels_follow.Goals as goal

pub returns : goal.returns
returns c = levels_row
