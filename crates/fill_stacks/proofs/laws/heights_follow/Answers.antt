use Rattle.fill_stacks.proofs.Folds.{heights_row}
use Rattle.fill_stacks.proofs.laws.heights_follow.Goals as goal

pub returns : goal.returns
returns c = heights_row
