use Rattle.gds_cells.proofs.Composing.{composed_groups}
use Rattle.gds_cells.proofs.laws.groups_freely.Goals as goal

pub returns : goal.returns
returns c = composed_groups
