use Rattle.fill_parts.proofs.Reporting.{rows_follow}
use Rattle.fill_parts.proofs.laws.rows_follow.Goals as goal

pub returns : goal.returns
returns c = rows_follow
