use Rattle.std.proofs.Common.{take}
use Rattle.gds_cells.specs.steps.Heights.{IsAbove}
use Rattle.gds_cells.proofs.heights.height_above.Given as goal

abbrev pub invariant-cells : goal.invariant-cells
invariant-cells l = IsAbove (take l.cell-index l.row) l.heights l.height
