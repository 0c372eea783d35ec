use Rattle.fill_size.proofs.Marking.{WidestTo}
use Rattle.fill_size.proofs.meeting.widest.Given as goal

abbrev pub invariant-loop-range : goal.invariant-loop-range
invariant-loop-range l = WidestTo l.ranges l.range-index l.width
