use Rattle.std.proofs.Common.{◌≡◌, true, sym, arith, ◌∙◌}
use Rattle.std.proofs.lemmas.Int.{ints}
use Rattle.fill_base.proofs.Signed.{read}
use Rattle.gds_flatten.specs.Frames.{overlap}
use Rattle.gds_flatten.proofs.framed.meets.Goals as goal

pub returns-then-overlap : goal.returns-then-overlap
returns-then-overlap c =
    let f = c.args.frame.now in
    let b = c.args.bounds.now in
    let left : read b.left ≡ b.left = omega (arith, ints) in
    let right : read b.right ≡ b.right = omega (arith, ints) in
    let bottom : read b.bottom ≡ b.bottom = omega (arith, ints) in
    let top : read b.top ≡ b.top = omega (arith, ints) in
    let x1 : read c.x1.result ≡ c.x1.result = omega (arith, ints) in
    let x2 : read c.x2.result ≡ c.x2.result = omega (arith, ints) in
    let y1 : read c.y1.result ≡ c.y1.result = omega (arith, ints) in
    let y2 : read c.y2.result ≡ c.y2.result = omega (arith, ints) in
    let first : overlap b.left b.right f.x1 f.x2 ≡ true = rw (sym c.x1.ensures, sym c.x2.ensures) (rw (left, right, x1, x2) at (sym c.overlap.ensures ∙ c.if-overlap.true)) in
    rw first (rw (sym c.y1.ensures, sym c.y2.ensures) (rw (bottom, top, y1, y2) at c.overlap-then-overlap.ensures))
