use Rattle.fill_parts.proofs.Looking.{nothing}
use Rattle.fill_parts.proofs.laws.part_of_no_window_has_nothing.Goals as goal

pub returns : goal.returns
returns c = nothing
