use Rattle.fill_core.proofs.Calling.{edit_step_of}
use Rattle.fill_core.proofs.laws.edit_is_a_step.Goals as goal

pub returns : goal.returns
returns c = edit_step_of
