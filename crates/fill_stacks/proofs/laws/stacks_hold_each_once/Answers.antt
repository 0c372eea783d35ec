use Rattle.fill_stacks.proofs.Stacking.{hold_each_once}
use Rattle.fill_stacks.proofs.laws.stacks_hold_each_once.Goals as goal

pub returns : goal.returns
returns c = hold_each_once
