use Rattle.gds_out.proofs.Boxed.{moved_box}
use Rattle.gds_out.proofs.laws.moved_box_is_the_places.Goals as goal

pub returns : goal.returns
returns c = moved_box
