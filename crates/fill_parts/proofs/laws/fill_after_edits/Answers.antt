use Rattle.fill_parts.proofs.Editing.{fill_after}
use Rattle.fill_parts.proofs.laws.fill_after_edits.Goals as goal

pub returns : goal.returns
returns c = fill_after
