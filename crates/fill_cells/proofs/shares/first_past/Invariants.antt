use Rattle.std.proofs.Common.{ℤ, ◌-◌, ◌≤◌, ◌<◌, ◌≤ℤ◌, get_or}
use Rattle.fill_cells.specs.Mesh.{gaps}
use Rattle.fill_cells.proofs.shares.first_past.Given as goal

abbrev pub invariant-gaps : goal.invariant-gaps
invariant-gaps l = (l.first ≤ gaps l.cuts) × ((d : ℤ) → 0 < l.first → get_or l.cuts l.first d ≤ℤ l.lo)

abbrev pub decreases-gaps : goal.decreases-gaps
decreases-gaps l = gaps l.cuts - l.first
