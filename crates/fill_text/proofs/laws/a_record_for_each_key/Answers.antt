use Rattle.fill_text.proofs.Once.{as_many}
use Rattle.fill_text.proofs.laws.a_record_for_each_key.Goals as goal

pub returns : goal.returns
returns c = as_many
