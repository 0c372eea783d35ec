use Rattle.fill_core.proofs.Counts.{counted_in_part}
use Rattle.fill_core.proofs.laws.counted_in_a_part.Goals as goal

pub returns : goal.returns
returns c = counted_in_part
