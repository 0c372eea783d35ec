use Rattle.gds_shape.proofs.Faults.{slanted_is}
use Rattle.gds_shape.proofs.path.has_slanted.Goals as goal

pub returns : goal.returns
returns c = slanted_is c.args.corners.now c.is_manhattan.result c.is_manhattan.ensures
