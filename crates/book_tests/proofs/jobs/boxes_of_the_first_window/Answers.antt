use Rattle.std.proofs.Common.{refl}
use Rattle.fill_job.specs.Plans.{in_window_of}
use Rattle.fill_job.specs.Searches.{some_below, some_pair}
use Rattle.book_tests.proofs.jobs.boxes_of_the_first_window.Goals as goal

pub returns-clause-inside : goal.returns-clause-inside
unfolding in_window_of some_pair some_below
returns-clause-inside c = refl

pub returns-clause-outside : goal.returns-clause-outside
unfolding in_window_of some_pair some_below
returns-clause-outside c = refl

pub returns-clause-above : goal.returns-clause-above
unfolding in_window_of some_pair some_below
returns-clause-above c = refl
