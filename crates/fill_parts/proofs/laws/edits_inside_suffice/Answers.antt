use Rattle.fill_parts.proofs.Editing.{inside_suffice}
use Rattle.fill_parts.proofs.laws.edits_inside_suffice.Goals as goal

pub returns : goal.returns
returns c = inside_suffice
