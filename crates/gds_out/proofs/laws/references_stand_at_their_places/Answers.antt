use Rattle.gds_out.proofs.Standing.{stand_at_places}
use Rattle.gds_out.proofs.laws.references_stand_at_their_places.Goals as goal

pub returns : goal.returns
returns c = stand_at_places
