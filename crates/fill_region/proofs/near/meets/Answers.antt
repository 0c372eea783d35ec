use Rattle.std.proofs.Common.{refl}
use Rattle.fill_base.proofs.Areas.{read_x1, read_x2, read_y1, read_y2}
use Rattle.fill_region.proofs.near.meets.Goals as goal

pub returns : goal.returns
returns c =
    let r = c.args.rect.now in
    let f = c.args.frame.now in
    rw (c.x1.ensures, c.x2.ensures, c.x1-2.ensures, c.x2-2.ensures, c.y1.ensures, c.y2.ensures, c.y1-2.ensures, c.y2-2.ensures, read_x1 r, read_x2 f, read_x1 f, read_x2 r, read_y1 r, read_y2 f, read_y1 f, read_y2 r) refl
