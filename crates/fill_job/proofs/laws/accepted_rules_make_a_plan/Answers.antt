use Rattle.fill_job.proofs.Accepted.{accepted_plan}
use Rattle.fill_job.proofs.laws.accepted_rules_make_a_plan.Goals as goal

pub returns : goal.returns
returns c = accepted_plan
