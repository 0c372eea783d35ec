use Rattle.std.proofs.Common.{◌+◌, take}
use Rattle.fill_region.proofs.Gaps.{Opened}
use Rattle.fill_region.proofs.crossed.crossed_intervals.Given as goal

abbrev pub invariant-rest : goal.invariant-rest
invariant-rest l = Opened (take (l.rect-index + 1) l.crossing) l.bottom l.top l.row.items l.last
