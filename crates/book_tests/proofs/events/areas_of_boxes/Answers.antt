use Rattle.std.proofs.Common.{refl}
use Rattle.fill_base.specs.Counts.{sum_from}
use Rattle.fill_raster.specs.Axes.{first, past}
use Rattle.fill_job.specs.Searches.{some_below, some_pair, some_within}
use Rattle.book_tests.proofs.events.areas_of_boxes.Goals as goal

pub returns-clause-apart : goal.returns-clause-apart
unfolding some_within some_pair some_below sum_from first past
returns-clause-apart c = refl

pub returns-clause-alone : goal.returns-clause-alone
unfolding some_within some_pair some_below sum_from first past
returns-clause-alone c = refl

pub returns-clause-once : goal.returns-clause-once
unfolding some_within some_pair some_below sum_from first past
returns-clause-once c = refl

pub returns-clause-counted : goal.returns-clause-counted
unfolding some_within some_pair some_below sum_from first past
returns-clause-counted c = refl

pub returns-clause-not_counted : goal.returns-clause-not_counted
unfolding some_within some_pair some_below sum_from first past
returns-clause-not_counted c = refl
