use Rattle.fill_job.proofs.Conflicts.{conflict_of_squares}
use Rattle.fill_job.proofs.laws.conflicts_are_of_squares.Goals as goal

pub returns : goal.returns
returns c = conflict_of_squares
