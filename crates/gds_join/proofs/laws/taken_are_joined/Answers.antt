use Rattle.gds_join.proofs.Turns.{all_taken}
use Rattle.gds_join.proofs.laws.taken_are_joined.Goals as goal

pub returns : goal.returns
returns c = all_taken
