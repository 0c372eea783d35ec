use Rattle.fill_parts.proofs.Lines.{lines_agree}
use Rattle.fill_parts.proofs.laws.lines_agree.Goals as goal

pub returns : goal.returns
returns c = lines_agree
