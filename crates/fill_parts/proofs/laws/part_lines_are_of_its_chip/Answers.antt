use Rattle.fill_parts.proofs.PartOfChip.{lines_of_chip}
use Rattle.fill_parts.proofs.laws.part_lines_are_of_its_chip.Goals as goal

pub returns : goal.returns
returns c = lines_of_chip
