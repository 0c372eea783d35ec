use Rattle.fill_job.proofs.Conflicts.{crowding_of_squares}
use Rattle.fill_job.proofs.laws.crowding_is_of_squares.Goals as goal

pub returns : goal.returns
returns c = crowding_of_squares
