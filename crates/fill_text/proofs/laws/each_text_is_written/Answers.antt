use Rattle.fill_text.proofs.Written.{each_text}
use Rattle.fill_text.proofs.laws.each_text_is_written.Goals as goal

pub returns : goal.returns
returns c = each_text
