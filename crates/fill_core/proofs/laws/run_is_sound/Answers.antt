use Rattle.fill_core.proofs.Calling.{run_sound}
use Rattle.fill_core.proofs.laws.run_is_sound.Goals as goal

pub returns : goal.returns
returns c = run_sound
