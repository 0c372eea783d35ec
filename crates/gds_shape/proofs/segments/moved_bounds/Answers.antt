use Rattle.std.proofs.Common.{arith}
use Rattle.std.proofs.lemmas.Int.{ints}
use Rattle.gds_shape.proofs.Spread.{moved_four}
use Rattle.gds_shape.proofs.segments.moved_bounds.Goals as goal

pub returns : goal.returns
returns c = moved_four c.args.by c.args.bounds _ _ _ _ (omega (arith, ints)) (omega (arith, ints)) (omega (arith, ints)) (omega (arith, ints))
