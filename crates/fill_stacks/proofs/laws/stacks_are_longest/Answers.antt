use Rattle.fill_stacks.proofs.Longest.{longest_stacks}
use Rattle.fill_stacks.proofs.laws.stacks_are_longest.Goals as goal

pub returns : goal.returns
returns c = longest_stacks
