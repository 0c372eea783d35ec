use Rattle.fill_parts.proofs.Clipping.{clipped}
use Rattle.fill_parts.proofs.laws.clipped_agrees.Goals as goal

pub returns : goal.returns
returns c = clipped
