use Rattle.std.proofs.Common.{◌≡◌}
use Rattle.fill_base.proofs.Signed.{read}
use Rattle.gds_cells.proofs.Pointing.{read_close, bounds_read_close}
use Rattle.gds_flatten.proofs.framed.carried_extent.Goals as goal

pub returns : goal.returns
returns c =
    let b = c.args.bounds.now in
    let f = c.requires.fine in
    let left : read b.left ≡ b.left = read_close b.left f.left in
    let bottom : read b.bottom ≡ b.bottom = read_close b.bottom f.bottom in
    let right : read b.right ≡ b.right = read_close b.right f.right in
    let top : read b.top ≡ b.top = read_close b.top f.top in
    bounds_read_close c.args.at.now b _ _ _ _ _ _ _ _ c.requires.within (record { left = f.left; bottom = f.bottom; right = f.right; top = f.top })
    (rw (left, bottom) at c.point_x-x1.ensures) (rw (left, bottom) at c.point_y-y1.ensures) (rw (right, top) at c.point_x-x2.ensures) (rw (right, top) at c.point_y-y2.ensures)
    c.min.ensures.value c.min-2.ensures.value c.max.ensures.value c.max-2.ensures.value
