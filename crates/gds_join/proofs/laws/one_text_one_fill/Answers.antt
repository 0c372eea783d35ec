use Rattle.gds_join.proofs.Telling.{one_fill}
use Rattle.gds_join.proofs.laws.one_text_one_fill.Goals as goal

pub returns : goal.returns
returns c = one_fill
