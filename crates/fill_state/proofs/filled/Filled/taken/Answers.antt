use Rattle.std.proofs.Common.{sym, ap, ◌∙◌}
use Rattle.fill_state.specs.Filling.{left_by}
use Rattle.fill_state.proofs.BoxSums.{box_taken}
use Rattle.fill_state.proofs.filled.Filled.taken.Goals as goal

pub returns-then-is_left : goal.returns-then-is_left
returns-then-is_left c = let b = c.box_of.ensures in
    box_taken c.self.inside.raster c.args.self.now.raster (left_by c.args.self.now c.args.out.now) c.args.window.now c.box_of.result c.args.place.i c.args.place.j c.shared_area.result
    (ap (λ f. f.raster) c.self.view_is) (sym c.is_left.ensures.left ∙ c.if-is_left.true) b.left b.bottom b.right b.top c.shared_area.ensures
