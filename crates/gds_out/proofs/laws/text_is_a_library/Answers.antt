use Rattle.gds_out.proofs.Grammatical.{is_a_library}
use Rattle.gds_out.proofs.laws.text_is_a_library.Goals as goal

pub returns : goal.returns
returns c = is_a_library
