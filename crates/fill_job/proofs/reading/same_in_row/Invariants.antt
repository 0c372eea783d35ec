use Rattle.std.proofs.Common.{◌≡◌, ◌≤◌, ◌<◌, ℕ}
use Rattle.fill_job.specs.Basis.{windows_in}
use Rattle.fill_job.proofs.reading.same_in_row.Given as goal

abbrev pub invariant-loop-a : goal.invariant-loop-a
invariant-loop-a l = (k : ℕ) → l.left ≤ k → k < l.a → windows_in l.part k l.b ≡ windows_in l.low k l.b
