use Rattle.fill_parts.proofs.RowsAlone.{wants_same}
use Rattle.fill_parts.proofs.laws.smaller_chip_wants_the_same.Goals as goal

pub returns : goal.returns
returns c = wants_same
