use Rattle.fill_text.proofs.KeyNames.{each_named}
use Rattle.fill_text.proofs.laws.each_name_is_of_one_key.Goals as goal

pub returns : goal.returns
returns c = each_named
