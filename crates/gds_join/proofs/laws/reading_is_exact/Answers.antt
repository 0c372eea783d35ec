use Rattle.gds_join.proofs.Telling.{exact}
use Rattle.gds_join.proofs.laws.reading_is_exact.Goals as goal

pub returns : goal.returns
returns c = exact
