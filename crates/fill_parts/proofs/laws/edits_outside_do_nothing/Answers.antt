use Rattle.fill_parts.proofs.Editing.{outside_nothing}
use Rattle.fill_parts.proofs.laws.edits_outside_do_nothing.Goals as goal

pub returns : goal.returns
returns c = outside_nothing
