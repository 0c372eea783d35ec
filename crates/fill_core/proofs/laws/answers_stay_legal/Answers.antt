use Rattle.fill_core.proofs.Written.{legal_with}
use Rattle.fill_core.proofs.laws.answers_stay_legal.Goals as goal

pub returns : goal.returns
returns c = legal_with
