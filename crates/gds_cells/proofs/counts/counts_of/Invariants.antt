use Rattle.gds_cells.proofs.CountsInOrder.{Counted}
use Rattle.gds_cells.proofs.counts.counts_of.Given as goal

abbrev pub invariant-cells : goal.invariant-cells
invariant-cells l = Counted l.cells l.order l.cell-index l.counts.items
