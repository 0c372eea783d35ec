use Rattle.fill_core.proofs.Written.{state_with}
use Rattle.fill_core.proofs.laws.entry_is_a_step.Goals as goal

pub returns : goal.returns
returns c = state_with
