use Rattle.fill_parts.proofs.Reporting.{parts_check}
use Rattle.fill_parts.proofs.laws.parts_make_the_check.Goals as goal

pub returns : goal.returns
returns c = parts_check
