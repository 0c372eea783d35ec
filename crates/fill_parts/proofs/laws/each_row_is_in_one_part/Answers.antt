use Rattle.fill_parts.proofs.Cutting.{one_part}
use Rattle.fill_parts.proofs.laws.each_row_is_in_one_part.Goals as goal

pub returns : goal.returns
returns c = one_part
