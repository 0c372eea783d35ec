use Rattle.std.proofs.Common.{refl}
use Rattle.fill_cells.proofs.Lists.{x1_fits, x2_fits, y1_fits, y2_fits}
use Rattle.fill_cells.proofs.SharedAreas.{none_shared, lt_read}
use Rattle.fill_cells.proofs.area.meets.Goals as goal

pub returns : goal.returns
returns c =
    let a = c.args.a.now in
    let b = c.args.b.now in
    none_shared a b _ (λ left right bottom top. rw (
      lt_read c.x1.result c.x2.result a.x1 b.x2 c.x1.ensures c.x2.ensures (x1_fits a) (x2_fits b) left,
      lt_read c.x1-2.result c.x2-2.result b.x1 a.x2 c.x1-2.ensures c.x2-2.ensures (x1_fits b) (x2_fits a) right,
      lt_read c.y1.result c.y2.result a.y1 b.y2 c.y1.ensures c.y2.ensures (y1_fits a) (y2_fits b) bottom,
      lt_read c.y1-2.result c.y2-2.result b.y1 a.y2 c.y1-2.ensures c.y2-2.ensures (y1_fits b) (y2_fits a) top,
    ) refl)
