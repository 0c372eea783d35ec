use Rattle.fill_parts.proofs.Cutting.{is_cut}
use Rattle.fill_parts.proofs.laws.parts_follow.Goals as goal

pub returns : goal.returns
returns c = is_cut
