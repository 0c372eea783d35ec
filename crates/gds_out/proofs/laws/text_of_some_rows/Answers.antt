use Rattle.gds_out.proofs.SomeRows.{text_alone}
use Rattle.gds_out.proofs.laws.text_of_some_rows.Goals as goal

pub returns : goal.returns
returns c = text_alone
