use Rattle.std.proofs.Common.{take, map, get_or, pos}
use Rattle.gds_shape.specs.Extents.{at_point}
use Rattle.gds_shape.proofs.Grown.{Grown}
use Rattle.gds_shape.proofs.extent.points_extent.Given as goal

abbrev pub invariant-points : goal.invariant-points
invariant-points l = Grown (at_point (get_or l.points 0 (record { x = pos 0; y = pos 0 }))) (take l.point-index (map at_point l.points)) l.extent
