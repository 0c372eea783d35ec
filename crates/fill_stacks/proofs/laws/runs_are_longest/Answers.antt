use Rattle.fill_stacks.proofs.PieceLaws.{longest}
use Rattle.fill_stacks.proofs.laws.runs_are_longest.Goals as goal

pub returns : goal.returns
returns c = longest
