use Rattle.std.proofs.Common.{◌≡◌, map, take}
use Rattle.gds_grammar.specs.Values.{cell_of, shape_of}
use Rattle.gds_cells.specs.Designs.{targets}
use Rattle.gds_cells.proofs.graph.targets_of.Given as goal

abbrev pub invariant-elements : goal.invariant-elements
invariant-elements l = l.found.items ≡ targets (map cell_of l.cells.entries) (map shape_of (take l.element-index l.elements))
