use Rattle.fill_sums.specs.steps.Bounds.{AreBounds}
use Rattle.fill_sums.proofs.bounds.bounds.Given as goal

abbrev pub invariant-loop-run : goal.invariant-loop-run
invariant-loop-run l = AreBounds l.run-items l.run-index l.left l.bottom l.right l.top
