use Rattle.std.proofs.Common.{◌∙◌}
use Rattle.gds_grammar.proofs.Cells.{found_by_name}
use Rattle.gds_grammar.proofs.library.has_cell.Goals as goal

pub returns : goal.returns
returns c = c.contains_key.ensures ∙ found_by_name c.args.cells.now.entries c.args.name.now
