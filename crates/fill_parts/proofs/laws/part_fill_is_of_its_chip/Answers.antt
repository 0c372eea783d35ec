use Rattle.fill_parts.proofs.PartOfChip.{fill_of_chip}
use Rattle.fill_parts.proofs.laws.part_fill_is_of_its_chip.Goals as goal

pub returns : goal.returns
returns c = fill_of_chip
