use Rattle.fill_parts.proofs.Agreeing.{areas_agree}
use Rattle.fill_parts.proofs.laws.areas_agree.Goals as goal

pub returns : goal.returns
returns c = areas_agree
