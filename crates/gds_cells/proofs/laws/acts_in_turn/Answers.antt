use Rattle.gds_cells.proofs.Composing.{carried_together}
use Rattle.gds_cells.proofs.laws.acts_in_turn.Goals as goal

pub returns : goal.returns
returns c = carried_together
