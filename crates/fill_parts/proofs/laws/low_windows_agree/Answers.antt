use Rattle.fill_parts.proofs.Agreeing.{low_agree}
use Rattle.fill_parts.proofs.laws.low_windows_agree.Goals as goal

pub returns : goal.returns
returns c = low_agree
