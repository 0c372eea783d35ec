use Rattle.std.proofs.Common.{◌-ℤ◌}
use Rattle.std.specs.Prelude.{unsigned_abs}
use Rattle.fill_spans.specs.Spans.{ceiling}
use Rattle.fill_region.proofs.Swept.{SweptRuns}
use Rattle.fill_region.proofs.sweep.runs_swept.Given as goal

abbrev pub invariant-sweep : goal.invariant-sweep
invariant-sweep l = SweptRuns l.rects l.later l.crossing.items l.recent.items l.ended.items l.line

abbrev pub decreases-sweep : goal.decreases-sweep
decreases-sweep l = unsigned_abs (ceiling -ℤ l.line)
