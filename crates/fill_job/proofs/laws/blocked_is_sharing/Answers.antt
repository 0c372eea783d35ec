use Rattle.fill_job.proofs.Conflicts.{blocked_sharing}
use Rattle.fill_job.proofs.laws.blocked_is_sharing.Goals as goal

pub returns : goal.returns
returns c = blocked_sharing
