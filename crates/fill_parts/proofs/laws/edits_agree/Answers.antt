use Rattle.fill_parts.proofs.Editing.{edits_agree}
use Rattle.fill_parts.proofs.laws.edits_agree.Goals as goal

pub returns : goal.returns
returns c = edits_agree
