use Rattle.std.proofs.Common.{◌≡◌, length}
use Rattle.gds_shape.specs.Paths.{doubles_back}
use Rattle.gds_shape.proofs.corners.doubles_back.Given as goal

abbrev pub invariant-corners : goal.invariant-corners
invariant-corners l = doubles_back l.rest ≡ doubles_back l.corners

abbrev pub decreases-corners : goal.decreases-corners
decreases-corners l = length l.rest
