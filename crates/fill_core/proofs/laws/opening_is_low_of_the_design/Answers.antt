use Rattle.fill_core.proofs.Replays.{opening_low}
use Rattle.fill_core.proofs.laws.opening_is_low_of_the_design.Goals as goal

pub returns : goal.returns
returns c = opening_low
