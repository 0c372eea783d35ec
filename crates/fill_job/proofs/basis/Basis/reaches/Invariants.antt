-- The columns of the places so far.
use Rattle.std.proofs.Common.{◌≤ℤ◌}
use Rattle.std.specs.Int.{int_max}
use Rattle.fill_job.specs.Basis.{plan_by}
use Rattle.fill_job.specs.steps.Reaches.{AreReaches}
use Rattle.fill_job.proofs.basis.Basis.reaches.Given as goal

abbrev pub invariant-loop-i : goal.invariant-loop-i
invariant-loop-i l = record {
  from : l.left ≤ℤ l.i;
  to : l.i ≤ℤ int_max l.left l.right;
  are : AreReaches (plan_by l.self).raster l.distance l.left l.i l.reaches.items;
}
