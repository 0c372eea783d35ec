use Rattle.gds_shape.proofs.Bends as bends
use Rattle.gds_shape.proofs.laws.corners_turn.Goals as goal

pub returns : goal.returns
returns c = bends.corners_turn
