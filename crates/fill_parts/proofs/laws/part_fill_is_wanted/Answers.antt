use Rattle.fill_parts.proofs.Agreeing.{part_wanted}
use Rattle.fill_parts.proofs.laws.part_fill_is_wanted.Goals as goal

pub returns : goal.returns
returns c = part_wanted
