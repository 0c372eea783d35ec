use Rattle.fill_core.proofs.Sound.{boxes_of_places}
use Rattle.fill_core.proofs.laws.boxes_are_of_places.Goals as goal

pub returns : goal.returns
returns c = boxes_of_places
