use Rattle.std.proofs.Common.{◌-ℤ◌, map}
use Rattle.std.specs.Prelude.{unsigned_abs}
use Rattle.fill_base.specs.Coordinates.{highest}
use Rattle.gds_shape.specs.Moves.{moved}
use Rattle.gds_shape.proofs.Sweep.{SweptTo}
use Rattle.gds_shape.proofs.lines.put_swept.Given as goal

abbrev pub invariant-sweep : goal.invariant-sweep
invariant-sweep l = SweptTo (map (moved l.fn.by) l.points) l.later l.crossing.items l.initial.out.items l.out.items l.line

abbrev pub decreases-sweep : goal.decreases-sweep
decreases-sweep l = unsigned_abs (highest -ℤ l.line)
