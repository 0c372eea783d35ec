use Rattle.std.proofs.Common.{length, map}
use Rattle.gds_shape.specs.Moves.{moved}
use Rattle.gds_shape.proofs.Along.{Along}
use Rattle.gds_shape.proofs.edges.edges_along.Given as goal

abbrev pub invariant-edges : goal.invariant-edges
invariant-edges l = Along (map (moved l.by) l.points) (map (moved l.by) l.rest) l.edges.items

abbrev pub decreases-edges : goal.decreases-edges
decreases-edges l = length l.rest
