use Rattle.fill_parts.proofs.Sides.{sides_least}
use Rattle.fill_parts.proofs.laws.needed_sides_are_least.Goals as goal

pub returns : goal.returns
returns c = sides_least
