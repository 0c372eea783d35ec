use Rattle.gds_cells.proofs.Naming.{found_index}
use Rattle.gds_cells.proofs.graph.index_of.Goals as goal

pub returns-clause-value : goal.returns-clause-value
returns-clause-value c = found_index c.args.cells.now.entries c.args.name.now c.get_index_of.result c.len.result c.unwrap_or.result
    c.get_index_of.ensures.index c.len.ensures.len c.unwrap_or.ensures
