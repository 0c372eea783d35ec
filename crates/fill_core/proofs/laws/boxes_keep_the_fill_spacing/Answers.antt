use Rattle.fill_core.proofs.Sound.{boxes_apart}
use Rattle.fill_core.proofs.laws.boxes_keep_the_fill_spacing.Goals as goal

pub returns : goal.returns
returns c = boxes_apart
