use Rattle.fill_base.proofs.Areas.{read_x1, read_x2, read_y1, read_y2}
use Rattle.fill_size.proofs.Ranges.{spacing_read, rects_test}
use Rattle.fill_size.proofs.clearance.conflicts.Goals as goal

pub returns : goal.returns
returns c =
    let a = c.args.a.now in
    let b = c.args.b.now in
    rects_test a b c.args.spacing c.requires c.are_near.result c.are_near-2.result
    (rw (c.x1.ensures, c.x2.ensures, c.x1-2.ensures, c.x2-2.ensures, read_x1 a, read_x2 a, read_x1 b, read_x2 b, spacing_read c.args.spacing c.requires) at c.are_near.ensures)
    (rw (c.y1.ensures, c.y2.ensures, c.y1-2.ensures, c.y2-2.ensures, read_y1 a, read_y2 a, read_y1 b, read_y2 b, spacing_read c.args.spacing c.requires) at c.are_near-2.ensures)
