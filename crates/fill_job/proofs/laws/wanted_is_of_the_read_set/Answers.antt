use Rattle.fill_job.proofs.ReadSets.{same_wanted}
use Rattle.fill_job.proofs.laws.wanted_is_of_the_read_set.Goals as goal

pub returns : goal.returns
returns c = same_wanted
