use Rattle.fill_core.proofs.Unedited.{complete_unedited}
use Rattle.fill_core.proofs.laws.complete_fill_without_edits.Goals as goal

pub returns : goal.returns
returns c = complete_unedited
