use Rattle.gds_flatten.proofs.ExtentsInOrder.{Extended}
use Rattle.gds_flatten.proofs.extents.extents_of.Given as goal

abbrev pub invariant-cells : goal.invariant-cells
invariant-cells l = Extended l.cells l.order l.cell-index l.extents.items
