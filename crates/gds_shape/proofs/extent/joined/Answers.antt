use Rattle.std.proofs.Common.{◌≡◌, ◌∙◌, arith}
use Rattle.std.proofs.lemmas.Int.{ints, clamps}
use Rattle.fill_base.proofs.Signed.{read}
use Rattle.gds_shape.proofs.Grown.{joined_is}
use Rattle.gds_shape.proofs.extent.joined.Goals as goal

pub returns : goal.returns
returns c =
    let a = c.args.a in
    let b = c.args.b in
    let al : read a.left ≡ a.left = omega (arith, ints, clamps) in
    let bl : read b.left ≡ b.left = omega (arith, ints, clamps) in
    let am : read a.bottom ≡ a.bottom = omega (arith, ints, clamps) in
    let bm : read b.bottom ≡ b.bottom = omega (arith, ints, clamps) in
    let ar : read a.right ≡ a.right = omega (arith, ints, clamps) in
    let br : read b.right ≡ b.right = omega (arith, ints, clamps) in
    let at : read a.top ≡ a.top = omega (arith, ints, clamps) in
    let bt : read b.top ≡ b.top = omega (arith, ints, clamps) in
    let left : read c.min.result ≡ c.min.result = omega (arith, ints, clamps) in
    let bottom : read c.min-2.result ≡ c.min-2.result = omega (arith, ints, clamps) in
    let right : read c.max.result ≡ c.max.result = omega (arith, ints, clamps) in
    let top : read c.max-2.result ≡ c.max-2.result = omega (arith, ints, clamps) in
    joined_is a b _ _ _ _ (left ∙ rw (al, bl) at c.min.ensures.value) (bottom ∙ rw (am, bm) at c.min-2.ensures.value)
    (right ∙ rw (ar, br) at c.max.ensures.value) (top ∙ rw (at, bt) at c.max-2.ensures.value)
