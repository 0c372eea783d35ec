use Rattle.std.proofs.Common.{◌-◌, length}
use Rattle.fill_region.proofs.RowIntervals.{AreIntervals}
use Rattle.fill_region.proofs.rows.intervals.Given as goal

abbrev pub invariant-intervals : goal.invariant-intervals
invariant-intervals l = AreIntervals l.edges l.bottom l.top l.k l.rects.items

abbrev pub decreases-intervals : goal.decreases-intervals
decreases-intervals l = length l.edges - l.k
