use Rattle.fill_parts.proofs.ToldLines.{lines_told}
use Rattle.fill_parts.proofs.laws.part_lines_are_told.Goals as goal

pub returns : goal.returns
returns c = lines_told
