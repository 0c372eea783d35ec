use Rattle.gds_cells.proofs.Turns.{turns_are_degrees_lem}
use Rattle.gds_cells.proofs.laws.turns_are_degrees.Goals as goal

pub returns : goal.returns
returns c = turns_are_degrees_lem
