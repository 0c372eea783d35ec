use Rattle.fill_core.proofs.Calling.{own_placed}
use Rattle.fill_core.proofs.laws.own_proposal_is_placed.Goals as goal

pub returns : goal.returns
returns c = own_placed
