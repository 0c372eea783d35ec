use Rattle.std.proofs.Common.{map}
use Rattle.gds_grammar.specs.Values.{cell_of}
use Rattle.gds_cells.specs.steps.Built.{AreBuilt}
use Rattle.gds_cells.proofs.cells.cells_of.Given as goal

abbrev pub invariant-cells : goal.invariant-cells
invariant-cells g l = AreBuilt (map cell_of l.cells.entries) l.layers l.steps l.index l.built.items
