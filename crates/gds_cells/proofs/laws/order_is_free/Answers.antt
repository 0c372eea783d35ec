use Rattle.gds_cells.proofs.Layered.{order_is_free}
use Rattle.gds_cells.proofs.laws.order_is_free.Goals as goal

pub returns : goal.returns
returns c = order_is_free
