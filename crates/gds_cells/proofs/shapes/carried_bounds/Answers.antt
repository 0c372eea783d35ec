use Rattle.std.proofs.Common.{◌≡◌}
use Rattle.fill_base.proofs.Signed.{read}
use Rattle.gds_cells.proofs.Pointing.{read_close, near_fours, bounds_read}
use Rattle.gds_cells.proofs.shapes.carried_bounds.Goals as goal

pub returns : goal.returns
returns c =
    let b = c.args.bounds.now in
    let four = near_fours b c.requires.near in
    let left : read b.left ≡ b.left = read_close b.left four.left in
    let bottom : read b.bottom ≡ b.bottom = read_close b.bottom four.bottom in
    let right : read b.right ≡ b.right = read_close b.right four.right in
    let top : read b.top ≡ b.top = read_close b.top four.top in
    bounds_read c.args.at.now b _ _ _ _ _ _ _ _ c.requires.within c.requires.near
    (rw (left, bottom) at c.point_x-x1.ensures) (rw (left, bottom) at c.point_y-y1.ensures) (rw (right, top) at c.point_x-x2.ensures) (rw (right, top) at c.point_y-y2.ensures)
    c.min.ensures.value c.min-2.ensures.value c.max.ensures.value c.max-2.ensures.value
