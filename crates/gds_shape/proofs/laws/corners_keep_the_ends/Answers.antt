use Rattle.gds_shape.proofs.Bends as bends
use Rattle.gds_shape.proofs.laws.corners_keep_the_ends.Goals as goal

pub returns : goal.returns
returns c = bends.corners_keep_the_ends
