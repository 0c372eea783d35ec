use Rattle.fill_region.proofs.Intervals.{same_run}
use Rattle.fill_region.proofs.laws.runs_share_no_square.Goals as goal

pub returns : goal.returns
returns c = same_run
