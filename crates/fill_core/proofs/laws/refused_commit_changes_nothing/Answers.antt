use Rattle.fill_core.proofs.Calling.{refused_commit}
use Rattle.fill_core.proofs.laws.refused_commit_changes_nothing.Goals as goal

pub returns : goal.returns
returns c = refused_commit
