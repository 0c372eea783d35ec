use Rattle.gds_flatten.proofs.Leaving.{layers_suffice_within}
use Rattle.gds_flatten.proofs.laws.layers_suffice_within.Goals as goal

pub returns : goal.returns
returns c = layers_suffice_within
