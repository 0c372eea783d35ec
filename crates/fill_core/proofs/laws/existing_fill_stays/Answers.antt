use Rattle.fill_core.proofs.Unedited.{existing_stays}
use Rattle.fill_core.proofs.laws.existing_fill_stays.Goals as goal

pub returns : goal.returns
returns c = existing_stays
