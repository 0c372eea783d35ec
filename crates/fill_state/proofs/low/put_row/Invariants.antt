-- The low ones of the windows of the row so far, but for the run that may go on.
use Rattle.fill_state.proofs.LowRuns.{IsRowSoFar}
use Rattle.fill_state.proofs.low.put_row.Given as goal

abbrev pub invariant-loop-column : goal.invariant-loop-column
invariant-loop-column l = IsRowSoFar l.windows l.least l.totals l.start l.column l.row l.low.items
