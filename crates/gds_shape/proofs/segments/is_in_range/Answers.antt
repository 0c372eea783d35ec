use Rattle.std.proofs.Common.{◌≡◌, arith}
use Rattle.std.proofs.lemmas.Int.{ints}
use Rattle.fill_base.proofs.Signed.{read}
use Rattle.gds_shape.proofs.segments.is_in_range.Goals as goal

pub returns-then-are_coordinates : goal.returns-then-are_coordinates
returns-then-are_coordinates c =
    let b = c.args.bounds.now in
    let left : read b.left ≡ b.left = omega (arith, ints) in
    let bottom : read b.bottom ≡ b.bottom = omega (arith, ints) in
    let right : read b.right ≡ b.right = omega (arith, ints) in
    let top : read b.top ≡ b.top = omega (arith, ints) in
    let one = rw (left, bottom) at c.are_coordinates.ensures in
    let two = rw (right, top) at c.are_coordinates-then-are_coordinates.ensures in
    ((λ h. (one.0 c.if-are_coordinates.true, two.0 h)), (λ h. two.1 h.1))
