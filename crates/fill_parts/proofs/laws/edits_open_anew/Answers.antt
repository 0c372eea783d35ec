use Rattle.fill_parts.proofs.Editing.{opens_anew}
use Rattle.fill_parts.proofs.laws.edits_open_anew.Goals as goal

pub returns : goal.returns
returns c = opens_anew
