-- The numbers so far are appended.
use Rattle.std.proofs.Common.{◌≡◌, ◌++◌, take}
use Rattle.gds_out.specs.steps.Rows.{counts}
use Rattle.gds_out.proofs.rows.push_counts.Given as goal

abbrev pub invariant-loop-counted : goal.invariant-loop-counted
invariant-loop-counted l = l.list.items ≡ l.fn.list.items ++ counts (take l.counted-index l.row)
