use Rattle.fill_parts.proofs.Reporting.{parts_report}
use Rattle.fill_parts.proofs.laws.parts_make_the_report.Goals as goal

pub returns : goal.returns
returns c = parts_report
