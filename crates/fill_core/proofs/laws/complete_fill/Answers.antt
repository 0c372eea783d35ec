use Rattle.fill_core.proofs.Replays.{complete_fill}
use Rattle.fill_core.proofs.laws.complete_fill.Goals as goal

pub returns : goal.returns
returns c = complete_fill
