use Rattle.fill_text.proofs.Once.{each_once}
use Rattle.fill_text.proofs.laws.each_key_stands_once.Goals as goal

pub returns : goal.returns
returns c = each_once
