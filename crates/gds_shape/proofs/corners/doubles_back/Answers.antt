use Rattle.std.proofs.Common.{◌∙◌}
use Rattle.gds_shape.proofs.Cornered.{no_back}
use Rattle.gds_shape.proofs.corners.doubles_back.Goals as goal

pub returns : goal.returns
returns c = no_back c.corners.rest.now c.corners-test.false ∙ c.corners.invariant
