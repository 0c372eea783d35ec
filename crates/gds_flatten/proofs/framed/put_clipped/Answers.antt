use Rattle.std.proofs.Common.{ap, refl, arith, ◌∙◌}
use Rattle.std.specs.Prelude.{◌&&◌, ◌||◌}
use Rattle.fill_base.specs.Squares.{squares}
use Rattle.fill_region.specs.Squares.{covered}
use Rattle.gds_flatten.proofs.Drawing.{or_false, whole_flat}
use Rattle.gds_flatten.proofs.Holding.{clip_next}
use Rattle.gds_flatten.proofs.framed.put_clipped.Goals as goal

pub rects-init : goal.rects-init
rects-init c = λ x y. or_false (covered c.args.out.now.items x y)

pub rects-preserved : goal.rects-preserved
rects-preserved c = λ x y.
    clip_next c.args.frame.now c.args.rects.now c.rects.rect-index c.rect-item.result (covered c.args.out.now.items x y) _ _ x y c.rects-test.true c.rect-item.is (c.in_ok-put_common.ensures x y) (c.rects.invariant x y)

pub returns : goal.returns
returns c = λ x y.
    let whole = whole_flat c.args.rects.now c.args.rects.now c.rects.rect-index refl (omega (arith, c.rects-test.false)) in
    c.rects.invariant x y ∙ ap (λ rs. covered c.args.out.now.items x y || (covered rs x y && squares c.args.frame.now x y)) whole
