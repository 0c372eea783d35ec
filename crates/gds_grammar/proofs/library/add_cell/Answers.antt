use Rattle.std.proofs.Common.{map, ap, ◌∙◌}
use Rattle.gds_grammar.specs.Values.{cell_of}
use Rattle.gds_grammar.proofs.Cells.{insert_new}
use Rattle.gds_grammar.proofs.library.add_cell.Goals as goal

pub returns : goal.returns
returns c = ap (map cell_of) c.in_ok-insert.ensures.entries ∙ insert_new c.args.cells.now.entries c.args.name c.args.elements c.requires
