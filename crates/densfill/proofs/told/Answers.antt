use Rattle.std.proofs.Common.{inr}
use Rattle.densfill.proofs.told.Goals as goal

pub returns-in-Err-clause-told : goal.returns-in-Err-clause-told
returns-in-Err-clause-told g c = inr (c.written-in-Err.ensures.is, c.written-in-Err.ensures.told)
