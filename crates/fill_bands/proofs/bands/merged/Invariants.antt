use Rattle.std.proofs.Common.{◌+◌, ◌-◌, length}
use Rattle.fill_bands.proofs.Sweeping.{Merged}
use Rattle.fill_bands.proofs.bands.merged.Given as goal

abbrev pub invariant-sweep : goal.invariant-sweep
invariant-sweep l = Merged l.operation l.a l.b l.i l.j l.out.items

abbrev pub decreases-sweep : goal.decreases-sweep
decreases-sweep l = (length l.a - l.i) + (length l.b - l.j)
