use Rattle.fill_parts.proofs.Looking.{part_chip}
use Rattle.fill_parts.proofs.laws.part_is_a_smaller_chip.Goals as goal

pub returns : goal.returns
returns c = part_chip
