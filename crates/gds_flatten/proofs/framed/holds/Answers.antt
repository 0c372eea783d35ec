use Rattle.std.proofs.Common.{◌≡◌, sym, arith}
use Rattle.std.proofs.lemmas.Int.{ints, clamps}
use Rattle.fill_base.proofs.Signed.{read}
use Rattle.gds_flatten.proofs.framed.holds.Goals as goal

pub returns-then-are_between : goal.returns-then-are_between
returns-then-are_between c = λ yes.
    let b = c.args.extent.now in
    let left : read b.left ≡ b.left = omega (arith, ints, clamps) in
    let right : read b.right ≡ b.right = omega (arith, ints, clamps) in
    let bottom : read b.bottom ≡ b.bottom = omega (arith, ints, clamps) in
    let top : read b.top ≡ b.top = omega (arith, ints, clamps) in
    let x1 : read c.x1.result ≡ c.x1.result = omega (arith, ints, clamps) in
    let x2 : read c.x2.result ≡ c.x2.result = omega (arith, ints, clamps) in
    let y1 : read c.y1.result ≡ c.y1.result = omega (arith, ints, clamps) in
    let y2 : read c.y2.result ≡ c.y2.result = omega (arith, ints, clamps) in
    let xs = rw (left, right, x1, x2) at (c.are_between.ensures c.if-are_between.true) in
    let ys = rw (bottom, top, y1, y2) at (c.are_between-then-are_between.ensures yes) in record {
      left = rw (sym c.x1.ensures) xs.0;
      bottom = rw (sym c.y1.ensures) ys.0;
      right = rw (sym c.x2.ensures) xs.1;
      top = rw (sym c.y2.ensures) ys.1;
    }
