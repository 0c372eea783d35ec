use Rattle.std.proofs.Common.{arith, ◌+◌, to_z, w64, ◌≡◌, ap, ◌∙◌, Bool, true, false, not, cond, refl}
use mir.Val.{bool_byte}
use Rattle.std.proofs.lemmas.Int.{ints}
use Rattle.fill_base.proofs.Signed.{read, read_is}
use Rattle.gds_shape.proofs.ReadBack.{read_x}
use Rattle.gds_shape.proofs.Walk.{walk_step, walk_end}
use Rattle.gds_shape.proofs.strip.put_strip.Goals as goal

byte_is : (b : Bool) → bool_byte b ≡ cond b 1 0
byte_is true = refl
byte_is false = refl

pub walk-preserved : goal.walk-preserved
walk-preserved c =
    let e = c.edge-item.result in
    let low : read c.args.bottom ≡ c.args.bottom = read_is c.args.bottom (omega (arith, ints)) in
    let high : read c.args.top ≡ c.args.top = read_is c.args.top (omega (arith, ints)) in
    let here : read e.x ≡ e.x = read_x e in
    rw (low, high, here) (walk_step c.args.out.now.items c.args.crossing.now c.args.bottom c.args.top c.walk.edge-index (to_z w64 c.walk.left-bits) c.walk.ups c.walk.downs c.walk.out.items c.put_gap.new.out.items e
    (c.walk.ups + c.from-ups.result) (c.walk.downs + c.from-downs.result) (rw (low, high) at c.walk.invariant) c.requires.rising c.walk-test.true c.edge-item.is
    (λ x y. rw (low, high, here) at (c.in_ok-put_gap.ensures x y)) (ap (λ n. c.walk.ups + n) (c.from-ups.ensures ∙ byte_is e.up)) (ap (λ n. c.walk.downs + n) (c.from-downs.ensures ∙ byte_is (not e.up))))

pub returns : goal.returns
returns c =
    let low : read c.args.bottom ≡ c.args.bottom = read_is c.args.bottom (omega (arith, ints)) in
    let high : read c.args.top ≡ c.args.top = read_is c.args.top (omega (arith, ints)) in
    walk_end c.args.out.now.items c.args.crossing.now c.args.bottom c.args.top c.walk.edge-index (to_z w64 c.walk.left-bits) c.walk.ups c.walk.downs c.walk.out.items
    (rw (low, high) at c.walk.invariant) (omega arith) c.requires.closed
