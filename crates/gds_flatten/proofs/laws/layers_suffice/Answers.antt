use Rattle.gds_flatten.proofs.Leaving.{layers_suffice}
use Rattle.gds_flatten.proofs.laws.layers_suffice.Goals as goal

pub returns : goal.returns
returns c = layers_suffice
