use Rattle.fill_core.proofs.Calling.{commit_step_of}
use Rattle.fill_core.proofs.laws.commit_is_a_step.Goals as goal

pub returns : goal.returns
returns c = commit_step_of
