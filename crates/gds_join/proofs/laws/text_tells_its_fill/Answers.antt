use Rattle.gds_join.proofs.Telling.{tells_fill}
use Rattle.gds_join.proofs.laws.text_tells_its_fill.Goals as goal

pub returns : goal.returns
returns c = tells_fill
