use Rattle.fill_core.proofs.Calling.{stale_nothing}
use Rattle.fill_core.proofs.laws.stale_changes_nothing.Goals as goal

pub returns : goal.returns
returns c = stale_nothing
