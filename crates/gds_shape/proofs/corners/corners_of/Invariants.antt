use Rattle.std.proofs.Common.{◌≡◌, ◌++◌, drop}
use Rattle.gds_shape.specs.Paths.{corners, corners_from}
use Rattle.gds_shape.proofs.corners.corners_of.Given as goal

abbrev pub invariant-points : goal.invariant-points
invariant-points l = l.kept.items ++ corners_from l.from l.to (drop l.point-index l.points) ≡ corners l.points
