use Rattle.gds_flatten.specs.steps.Idle.{IsBusy}
use Rattle.gds_flatten.proofs.Busy.{AreChanged}
use Rattle.gds_flatten.proofs.idle.drop_idle.Given as goal

abbrev pub invariant-cells : goal.invariant-cells
invariant-cells l = AreChanged (IsBusy l.counts) l.fn.cells l.cells l.cell-index
