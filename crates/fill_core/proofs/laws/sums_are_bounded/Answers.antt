use Rattle.fill_core.proofs.Counts.{sums_bounded}
use Rattle.fill_core.proofs.laws.sums_are_bounded.Goals as goal

pub returns : goal.returns
returns c = sums_bounded
