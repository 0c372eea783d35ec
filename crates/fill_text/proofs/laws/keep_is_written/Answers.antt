use Rattle.fill_text.proofs.Written.{keep_written}
use Rattle.fill_text.proofs.laws.keep_is_written.Goals as goal

pub returns : goal.returns
returns c = keep_written
