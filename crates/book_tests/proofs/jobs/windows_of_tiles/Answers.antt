use Rattle.std.proofs.Common.{refl}
use Rattle.fill_raster.specs.Axes.{first, past}
use Rattle.book_tests.proofs.jobs.windows_of_tiles.Goals as goal

pub returns-clause-first : goal.returns-clause-first
unfolding first past
returns-clause-first c = refl

pub returns-clause-far : goal.returns-clause-far
unfolding first past
returns-clause-far c = refl

pub returns-clause-last : goal.returns-clause-last
unfolding first past
returns-clause-last c = refl
