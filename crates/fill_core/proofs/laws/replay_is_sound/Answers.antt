use Rattle.fill_core.proofs.Sound.{replay_sound}
use Rattle.fill_core.proofs.laws.replay_is_sound.Goals as goal

pub returns : goal.returns
returns c = replay_sound
