use Rattle.fill_text.proofs.Listed.{each_layer}
use Rattle.fill_text.proofs.laws.each_layer_is_written.Goals as goal

pub returns : goal.returns
returns c = each_layer
