use Rattle.std.proofs.Common.{◌≤◌}
use Rattle.fill_cells.specs.Mesh.{gaps}
use Rattle.fill_cells.proofs.shares.cut_below.Given as goal

abbrev pub invariant-cuts : goal.invariant-cuts
invariant-cuts l = l.below ≤ gaps l.cuts

abbrev pub decreases-cuts : goal.decreases-cuts
decreases-cuts l = l.below
