use Rattle.std.proofs.Common.{rules}
use Rattle.gds_cells.specs.steps.Rows.{rows}
use Rattle.gds_cells.proofs.HeightsInOrder.{heights_more}
use Rattle.gds_cells.proofs.heights.heights_of.Goals as goal

pub cells-preserved : goal.cells-preserved
cells-preserved c = heights_more (rows c.args.graph.now) c.args.order.now c.cells.cell-index c.cells.heights.items c.height_above.result
    c.requires.ordered c.cells-test.true (c.requires.within c.cells.cell-index c.cells-test.true) c.cells.invariant (search rules)
