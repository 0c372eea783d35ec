use Rattle.std.proofs.Common.{take}
use Rattle.fill_region.specs.Squares.{covered}
use Rattle.fill_size.specs.Distance.{HasSquare}
use Rattle.fill_size.specs.Ranges.{AreMarked}
use Rattle.fill_size.proofs.meeting.mark_met.Given as goal

abbrev pub invariant-loop-run : goal.invariant-loop-run
invariant-loop-run l = AreMarked (λ lo hi. HasSquare (covered (take l.run-index l.run-items)) lo l.bottom hi l.top) l.ranges l.initial.marks l.marks
