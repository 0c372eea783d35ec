use Rattle.std.proofs.Common.{◌≡◌, take, arith, subst, sym, ◌∙◌, true≢false}
use Rattle.std.proofs.lemmas.List.{take_all}
use Rattle.fill_region.specs.Changes.{ArePartedBy}
use Rattle.fill_region.proofs.Changing.{none_parted, one_near, one_far}
use Rattle.fill_region.proofs.changes.near_and_far.Goals as goal
use Rattle.fill_region.proofs.changes.near_and_far.Goals.{then-is_aside+in_ok-push, else-is_aside+in_ok-push-2}

pub runs-init : goal.runs-init
runs-init c = rw (c.new-near.ensures.items, c.new-far.ensures.items) (none_parted c.args.frame.now c.args.runs.now)

pub runs-preserved : goal.runs-preserved
runs-preserved c = elim c.if-is_aside.branch [
  | then-is_aside+in_ok-push w ↦ rw (w.near-is, w.far-is) (rw (w.in_ok-push.ensures.items)
      (one_far c.args.frame.now c.args.runs.now c.runs.near.items c.runs.far.items c.runs.rect-index c.rect-item.result c.runs-test.true c.rect-item.is (c.is_aside.ensures.0 w.if-is_aside.true) c.runs.invariant))
  | else-is_aside+in_ok-push-2 w ↦ rw (w.near-is, w.far-is) (rw (w.in_ok-push-2.ensures.items)
      (one_near c.args.frame.now c.args.runs.now c.runs.near.items c.runs.far.items c.runs.rect-index c.rect-item.result c.runs-test.true c.rect-item.is (λ aside. true≢false (sym (c.is_aside.ensures.1 aside) ∙ w.if-is_aside.false)) c.runs.invariant))
]

pub returns : goal.returns
returns c = let whole : take c.runs.rect-index c.args.runs.now ≡ c.args.runs.now = take_all c.runs.rect-index c.args.runs.now (omega (arith, c.runs-test.false)) in
    subst (λ rs. ArePartedBy c.args.frame.now rs c.runs.near.items c.runs.far.items) whole c.runs.invariant
