use Rattle.fill_core.proofs.Calling.{accepted_wanted}
use Rattle.fill_core.proofs.laws.accepted_marks_are_wanted.Goals as goal

pub returns : goal.returns
returns c = accepted_wanted
