use Rattle.fill_text.proofs.WrittenEdits.{each_record}
use Rattle.fill_text.proofs.laws.each_record_is_a_change.Goals as goal

pub returns : goal.returns
returns c = each_record
