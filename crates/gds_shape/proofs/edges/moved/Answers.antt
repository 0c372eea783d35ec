use Rattle.std.proofs.Common.{arith}
use Rattle.std.proofs.lemmas.Int.{ints}
use Rattle.gds_shape.proofs.Along.{moved_read}
use Rattle.gds_shape.proofs.edges.moved.Goals as goal

pub returns : goal.returns
returns c = moved_read c.args.by c.args.point _ _ (omega (arith, ints)) (omega (arith, ints))
