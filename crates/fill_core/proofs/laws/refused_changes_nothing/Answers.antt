use Rattle.fill_core.proofs.Replays.{refused_nothing}
use Rattle.fill_core.proofs.laws.refused_changes_nothing.Goals as goal

pub returns : goal.returns
returns c = refused_nothing
