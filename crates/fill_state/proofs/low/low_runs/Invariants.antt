-- The low windows of the rows so far.
use Rattle.fill_state.specs.steps.LowBefore.{AreLowBefore}
use Rattle.fill_state.proofs.low.low_runs.Given as goal

abbrev pub invariant-loop-row : goal.invariant-loop-row
invariant-loop-row l = AreLowBefore l.windows l.least l.totals 0 l.row l.low.items
