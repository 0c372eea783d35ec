use Rattle.std.proofs.Common.{◌↔◌, length}
use Rattle.gds_shape.specs.Winding.{IsManhattan}
use Rattle.gds_shape.proofs.boundary.is_manhattan.Given as goal

abbrev pub invariant-edges : goal.invariant-edges
invariant-edges l = IsManhattan l.rest ↔ IsManhattan l.points

abbrev pub decreases-edges : goal.decreases-edges
decreases-edges l = length l.rest
