use Rattle.gds_cells.proofs.Layered.{shapes_of_one_layer}
use Rattle.gds_cells.proofs.laws.shapes_of_one_layer.Goals as goal

pub returns : goal.returns
returns c = shapes_of_one_layer
