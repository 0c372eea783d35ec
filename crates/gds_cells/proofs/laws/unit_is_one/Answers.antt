use Rattle.gds_cells.proofs.Turns.{unit_is_one_lem}
use Rattle.gds_cells.proofs.laws.unit_is_one.Goals as goal

pub returns : goal.returns
returns c = unit_is_one_lem
