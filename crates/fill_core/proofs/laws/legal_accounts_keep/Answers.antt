use Rattle.fill_core.proofs.Written.{keeping_of}
use Rattle.fill_core.proofs.laws.legal_accounts_keep.Goals as goal

pub returns : goal.returns
returns c = keeping_of
