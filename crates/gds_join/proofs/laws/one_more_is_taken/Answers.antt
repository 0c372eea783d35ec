use Rattle.gds_join.proofs.Turns.{one_more}
use Rattle.gds_join.proofs.laws.one_more_is_taken.Goals as goal

pub returns : goal.returns
returns c = one_more
