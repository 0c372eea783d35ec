use Rattle.gds_join.proofs.Libraries.{parts_library}
use Rattle.gds_join.proofs.laws.parts_make_the_library.Goals as goal

pub returns : goal.returns
returns c = parts_library
