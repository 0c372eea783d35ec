use Rattle.std.proofs.Common.{refl}
use Rattle.fill_job.specs.Plans.{meets_box}
use Rattle.fill_job.specs.Searches.{some_below, some_pair, some_within}
use Rattle.book_tests.proofs.jobs.corner_gaps.Goals as goal

pub returns-clause-one : goal.returns-clause-one
unfolding meets_box some_within some_pair some_below
returns-clause-one c = refl

pub returns-clause-two : goal.returns-clause-two
unfolding meets_box some_within some_pair some_below
returns-clause-two c = refl

pub returns-clause-left : goal.returns-clause-left
unfolding meets_box some_within some_pair some_below
returns-clause-left c = refl

pub returns-clause-further_left : goal.returns-clause-further_left
unfolding meets_box some_within some_pair some_below
returns-clause-further_left c = refl
