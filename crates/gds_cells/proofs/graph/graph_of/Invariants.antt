use Rattle.std.proofs.Common.{◌≡◌, take, map}
use Rattle.gds_grammar.specs.Values.{cell_of}
use Rattle.gds_cells.specs.Designs.{targets}
use Rattle.gds_cells.specs.steps.Rows.{rows}
use Rattle.gds_cells.proofs.graph.graph_of.Given as goal

abbrev pub invariant-cells : goal.invariant-cells
invariant-cells l = rows l.graph.items ≡ map (λ e. targets (map cell_of l.cells.entries) e.shapes) (take l.index (map cell_of l.cells.entries))
