use Rattle.fill_core.proofs.Replays.{filled_allowed}
use Rattle.fill_core.proofs.laws.filled_places_are_allowed.Goals as goal

pub returns : goal.returns
returns c = filled_allowed
