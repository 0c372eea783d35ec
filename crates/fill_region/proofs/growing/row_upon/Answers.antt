use Rattle.fill_region.proofs.Lengthening.{ended_and_lengthened}
use Rattle.fill_region.proofs.growing.row_upon.Goals as goal

pub returns-clause-stacked : goal.returns-clause-stacked
returns-clause-stacked c = λ p at m. ended_and_lengthened p c.args.lower.now c.args.row.now c.args.ended.now.items c.in_ok-runs.runs.items c.put_ended.new.ended.items (c.in_ok-put_ended.ensures.runs p at m) (c.in_ok-runs.ensures.runs p at m)
