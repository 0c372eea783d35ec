use Rattle.fill_parts.proofs.Agreeing.{fills_agree}
use Rattle.fill_parts.proofs.laws.fills_agree.Goals as goal

pub returns : goal.returns
returns c = fills_agree
