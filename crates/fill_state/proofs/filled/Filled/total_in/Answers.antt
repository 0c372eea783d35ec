use Rattle.fill_state.specs.Layers.{is_drawn}
use Rattle.fill_base.specs.Squares.{area_of}
use Rattle.fill_state.specs.Filling.{boxes_of, left_by, drawn_or_box}
use Rattle.fill_state.proofs.Totals.{Together, together}
use Rattle.fill_state.proofs.filled.Filled.total_in.Goals as goal

sum : (c : goal.After-boxes_in) → Together (area_of (drawn_or_box c.args.self.now.raster (left_by c.args.self.now c.args.out.now) (is_drawn c.args.drawn.now)) c.args.window.now) c.area_in.result c.boxes_in.result
sum c = together (is_drawn c.args.drawn.now) (boxes_of c.args.self.now.raster (left_by c.args.self.now c.args.out.now)) c.args.window.now c.area_in.result c.boxes_in.result c.area_in.ensures c.boxes_in.ensures c.requires

pub overflow_add-result : goal.overflow_add-result
overflow_add-result c = (sum c).fits

pub returns : goal.returns
returns c = (sum c).total
