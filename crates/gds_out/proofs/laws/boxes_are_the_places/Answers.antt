use Rattle.gds_out.proofs.Reread.{boxes_are_places}
use Rattle.gds_out.proofs.laws.boxes_are_the_places.Goals as goal

pub returns : goal.returns
returns c = boxes_are_places
