use Rattle.gds_join.proofs.Turns.{none_taken}
use Rattle.gds_join.proofs.laws.none_are_taken.Goals as goal

pub returns : goal.returns
returns c = none_taken
