use Rattle.fill_parts.proofs.Joining.{parts_apart}
use Rattle.fill_parts.proofs.laws.parts_are_apart.Goals as goal

pub returns : goal.returns
returns c = parts_apart
