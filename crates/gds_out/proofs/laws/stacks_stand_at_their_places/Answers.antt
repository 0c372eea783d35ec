use Rattle.gds_out.proofs.Standing.{stacks_stand}
use Rattle.gds_out.proofs.laws.stacks_stand_at_their_places.Goals as goal

pub returns : goal.returns
returns c = stacks_stand
