use Rattle.gds_cells.proofs.Layered.{draws_the_union}
use Rattle.gds_cells.proofs.laws.draws_the_union.Goals as goal

pub returns : goal.returns
returns c = draws_the_union
