use Rattle.fill_text.proofs.Written.{each_number}
use Rattle.fill_text.proofs.laws.each_number_is_written.Goals as goal

pub returns : goal.returns
returns c = each_number
