use Rattle.fill_parts.proofs.Editing.{edits_changes}
use Rattle.fill_parts.proofs.laws.edits_are_changes.Goals as goal

pub returns : goal.returns
returns c = edits_changes
