use Rattle.gds_out.proofs.Corners.{array_is}
use Rattle.gds_out.proofs.elements.array_points.Goals as goal

pub returns : goal.returns
returns c = array_is c.args.corner c.args.step c.args.stack.columns c.args.stack.rows c.moved.result c.moved-2.result c.requires c.moved.ensures c.moved-2.ensures
