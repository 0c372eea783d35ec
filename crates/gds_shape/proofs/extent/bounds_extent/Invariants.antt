use Rattle.std.proofs.Common.{take, get_or}
use Rattle.gds_shape.proofs.Spread.{zero_bounds}
use Rattle.gds_shape.proofs.Grown.{Grown}
use Rattle.gds_shape.proofs.extent.bounds_extent.Given as goal

abbrev pub invariant-all : goal.invariant-all
invariant-all l = Grown (get_or l.all 0 zero_bounds) (take l.bounds-index l.all) l.extent
