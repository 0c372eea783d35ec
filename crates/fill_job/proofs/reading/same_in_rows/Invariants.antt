use Rattle.std.proofs.Common.{◌≡◌, ◌≤◌, ◌<◌, ℕ}
use Rattle.fill_job.specs.Basis.{windows_in}
use Rattle.fill_job.proofs.reading.same_in_rows.Given as goal

abbrev pub invariant-loop-b : goal.invariant-loop-b
invariant-loop-b l = (k m : ℕ) → l.left ≤ k → k < l.right → l.bottom ≤ m → m < l.b → windows_in l.part k m ≡ windows_in l.low k m
