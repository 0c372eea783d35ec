use Rattle.std.proofs.Common.{ap, refl, arith, ◌∙◌}
use Rattle.std.specs.Prelude.{◌&&◌, ◌||◌}
use Rattle.std.specs.List.{flat_map}
use Rattle.std.specs.Vec.{vec_items}
use Rattle.fill_base.specs.Squares.{squares}
use Rattle.fill_region.specs.Squares.{covered}
use Rattle.gds_flatten.proofs.Drawing.{whole_flat}
use Rattle.gds_flatten.proofs.Holding.{parts_next}
use Rattle.gds_flatten.proofs.framed.clipped.Goals as goal

pub parts-preserved : goal.parts-preserved
parts-preserved c = λ x y.
    parts_next c.args.frame.now c.args.parts.now c.parts.part-index c.part-item.result _ _ x y c.parts-test.true c.part-item.is
    (c.in_ok-put_clipped.ensures x y ∙ ap (λ rs. covered c.parts.kept.items x y || (covered rs x y && squares c.args.frame.now x y)) c.deref.ensures.value) (c.parts.invariant x y)

pub returns : goal.returns
returns c = λ x y.
    let whole = whole_flat c.args.parts.now c.args.parts.now c.parts.part-index refl (omega (arith, c.parts-test.false)) in
    c.parts.invariant x y ∙ ap (λ rs. covered (flat_map vec_items rs) x y && squares c.args.frame.now x y) whole
