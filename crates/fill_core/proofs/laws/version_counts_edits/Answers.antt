use Rattle.fill_core.proofs.Counts.{version_counts}
use Rattle.fill_core.proofs.laws.version_counts_edits.Goals as goal

pub returns : goal.returns
returns c = version_counts
