use Rattle.fill_job.proofs.ReadSets.{equal_wanted}
use Rattle.fill_job.proofs.laws.equal_read_sets_want_the_same.Goals as goal

pub returns : goal.returns
returns c = equal_wanted
