use Rattle.gds_cells.proofs.Wholes.{steps_are_whole_lem}
use Rattle.gds_cells.proofs.laws.steps_are_whole.Goals as goal

pub returns : goal.returns
returns c = steps_are_whole_lem
