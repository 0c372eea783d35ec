use Rattle.std.proofs.Common.{◌≡◌, take, arith, subst, sym, ◌∙◌}
use Rattle.std.proofs.lemmas.List.{take_all}
use Rattle.fill_region.specs.Clips.{ArePartsWithin}
use Rattle.fill_region.proofs.Clipping.{one_inner, one_beside, none_more}
use Rattle.fill_region.proofs.clips.clips_within.Goals as goal
use Rattle.fill_region.proofs.clips.clips_within.Goals.{then-is_inner+in_ok-push, else-is_inner+in_ok-push-2}

pub rects-preserved : goal.rects-preserved
rects-preserved c = elim c.if-is_inner.branch [
  | then-is_inner+in_ok-push w ↦ rw (w.inner-is, w.beside-is) (rw (w.in_ok-push.ensures.items)
      (one_inner c.args.rects.now c.args.frame.now c.rects.inner.items c.rects.beside.items c.rects.rect-index c.rect-item.result c.in-Some.part c.rects-test.true c.rect-item.is c.in-Some.ensures.some (sym c.is_inner.ensures ∙ w.if-is_inner.true) c.rects.invariant))
  | else-is_inner+in_ok-push-2 w ↦ rw (w.inner-is, w.beside-is) (rw (w.in_ok-push-2.ensures.items)
      (one_beside c.args.rects.now c.args.frame.now c.rects.inner.items c.rects.beside.items c.rects.rect-index c.rect-item.result c.in-Some.part c.rects-test.true c.rect-item.is c.in-Some.ensures.some (sym c.is_inner.ensures ∙ w.if-is_inner.false) c.rects.invariant))
]

pub rects-preserved-in_default : goal.rects-preserved-in_default
rects-preserved-in_default c = none_more c.args.rects.now c.args.frame.now c.rects.inner.items c.rects.beside.items c.rects.rect-index c.rect-item.result c.rects-test.true c.rect-item.is c.in_default.ensures.none c.rects.invariant

pub returns : goal.returns
returns c =
    let whole : take c.rects.rect-index c.args.rects.now ≡ c.args.rects.now = take_all c.rects.rect-index c.args.rects.now (omega (arith, c.rects-test.false)) in
    subst (λ rs. ArePartsWithin rs c.args.frame.now c.rects.inner.items c.rects.beside.items) whole c.rects.invariant
