use Rattle.std.proofs.Common.{rules, refl}
use Rattle.gds_cells.specs.Graphs.{item}
use Rattle.gds_cells.proofs.HeightsInOrder.{above_more}
use Rattle.gds_cells.proofs.heights.height_above.Goals as goal

pub cells-preserved : goal.cells-preserved
cells-preserved c = above_more c.args.row.now c.args.heights.now c.cells.cell-index (item c.args.row.now c.cells.cell-index)
    c.cells.height c.height_over.result c.greater-height.result c.cells-test.true refl c.requires c.cells.invariant (search rules) (search rules)
