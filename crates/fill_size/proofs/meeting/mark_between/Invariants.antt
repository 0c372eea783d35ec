use Rattle.fill_size.specs.Ranges.{HaveCommon}
use Rattle.fill_size.proofs.Marking.{MarkedTo}
use Rattle.fill_size.proofs.meeting.mark_between.Given as goal

abbrev pub invariant-loop-a : goal.invariant-loop-a
invariant-loop-a l = MarkedTo (λ lo hi. HaveCommon lo hi l.left l.right) l.ranges l.initial.marks l.marks l.first l.a
