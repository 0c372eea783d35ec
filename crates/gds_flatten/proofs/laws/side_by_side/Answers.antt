use Rattle.gds_flatten.proofs.Beside.{side_by_side}
use Rattle.gds_flatten.proofs.laws.side_by_side.Goals as goal

pub returns : goal.returns
returns c = side_by_side
