use Rattle.gds_cells.specs.steps.Rows.{rows}
use Rattle.gds_cells.proofs.HeightsInOrder.{AreHeights}
use Rattle.gds_cells.proofs.heights.heights_of.Given as goal

abbrev pub invariant-cells : goal.invariant-cells
invariant-cells l = AreHeights (rows l.graph) l.order l.cell-index l.heights.items
