use Rattle.densfill_engine.proofs.Replayed.{metal_replayed}
use Rattle.densfill_engine.proofs.laws.metal_is_replayed.Goals as goal

pub returns : goal.returns
returns c = metal_replayed
