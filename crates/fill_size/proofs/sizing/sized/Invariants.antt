use Rattle.std.proofs.Common.{take}
use Rattle.fill_region.specs.Squares.{covered}
use Rattle.fill_size.specs.Distance.{IsSized}
use Rattle.fill_size.proofs.sizing.sized.Given as goal

abbrev pub invariant-loop-run : goal.invariant-loop-run
invariant-loop-run l = IsSized (covered (take l.run-index l.run-items)) l.d (covered l.grown.items)
