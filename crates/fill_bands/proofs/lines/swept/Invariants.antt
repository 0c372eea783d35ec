use Rattle.std.proofs.Common.{◌-ℤ◌}
use Rattle.std.specs.Prelude.{unsigned_abs}
use Rattle.fill_spans.specs.Spans.{ceiling}
use Rattle.fill_bands.proofs.UpwardSweep.{SweptTo}
use Rattle.fill_bands.proofs.lines.swept.Given as goal

abbrev pub invariant-sweep : goal.invariant-sweep
invariant-sweep l = SweptTo l.rects l.later l.crossing.items l.bands.items l.line

abbrev pub decreases-sweep : goal.decreases-sweep
decreases-sweep l = unsigned_abs (ceiling -ℤ l.line)
