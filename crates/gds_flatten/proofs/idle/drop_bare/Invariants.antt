use Rattle.gds_flatten.specs.steps.Idle.{IsFilled}
use Rattle.gds_flatten.proofs.Busy.{AreChanged}
use Rattle.gds_flatten.proofs.idle.drop_bare.Given as goal

abbrev pub invariant-cells : goal.invariant-cells
invariant-cells l = AreChanged IsFilled l.fn.cells l.cells l.cell-index
