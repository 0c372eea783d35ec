use Rattle.std.proofs.Common.{◌≤◌, ◌-◌}
use Rattle.fill_cells.specs.Mesh.{gaps}
use Rattle.fill_cells.proofs.shares.first_from.Given as goal

abbrev pub invariant-gaps : goal.invariant-gaps
invariant-gaps l = (l.first ≤ l.past) × (l.past ≤ gaps l.cuts)

abbrev pub decreases-gaps : goal.decreases-gaps
decreases-gaps l = gaps l.cuts - l.past
