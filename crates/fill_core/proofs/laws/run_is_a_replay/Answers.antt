use Rattle.fill_core.proofs.Calling.{run_replay}
use Rattle.fill_core.proofs.laws.run_is_a_replay.Goals as goal

pub returns : goal.returns
returns c = run_replay
