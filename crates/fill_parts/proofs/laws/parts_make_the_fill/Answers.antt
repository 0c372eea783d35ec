use Rattle.fill_parts.proofs.Joining.{parts_fill}
use Rattle.fill_parts.proofs.laws.parts_make_the_fill.Goals as goal

pub returns : goal.returns
returns c = parts_fill
