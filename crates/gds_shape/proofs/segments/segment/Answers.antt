use Rattle.std.proofs.Common.{◌≡◌, ◌∙◌, arith, sym}
use Rattle.std.proofs.lemmas.Int.{ints}
use Rattle.fill_base.proofs.Signed.{read}
use Rattle.gds_shape.proofs.Segmented.{upright_is, level_is}
use Rattle.gds_shape.proofs.segments.segment.Goals as goal

pub returns-then-is_upright : goal.returns-then-is_upright
returns-then-is_upright c =
    let py : read c.args.from.y ≡ c.args.from.y = omega (arith, ints) in
    let qy : read c.args.to.y ≡ c.args.to.y = omega (arith, ints) in
    let before : read c.args.before ≡ c.args.before = omega (arith, ints) in
    let after : read c.args.after ≡ c.args.after = omega (arith, ints) in
    let low : read c.low_end.result ≡ c.low_end.result = omega (arith, ints) in
    let high : read c.high_end.result ≡ c.high_end.result = omega (arith, ints) in
    upright_is c.args.from c.args.to c.args.half c.args.before c.args.after _ _ _ _ (sym c.is_upright.ensures ∙ c.if-is_upright.true)
    (omega (arith, ints)) (low ∙ rw (py, qy, before, after) at c.low_end.ensures) (omega (arith, ints)) (high ∙ rw (py, qy, before, after) at c.high_end.ensures)

pub returns : goal.returns
returns c =
    let px : read c.args.from.x ≡ c.args.from.x = omega (arith, ints) in
    let qx : read c.args.to.x ≡ c.args.to.x = omega (arith, ints) in
    let before : read c.args.before ≡ c.args.before = omega (arith, ints) in
    let after : read c.args.after ≡ c.args.after = omega (arith, ints) in
    let low : read c.low_end-2.result ≡ c.low_end-2.result = omega (arith, ints) in
    let high : read c.high_end-2.result ≡ c.high_end-2.result = omega (arith, ints) in
    level_is c.args.from c.args.to c.args.half c.args.before c.args.after _ _ _ _ (sym c.is_upright.ensures ∙ c.if-is_upright.false)
    (low ∙ rw (px, qx, before, after) at c.low_end-2.ensures) (omega (arith, ints)) (high ∙ rw (px, qx, before, after) at c.high_end-2.ensures) (omega (arith, ints))
