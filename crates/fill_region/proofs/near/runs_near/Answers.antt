use Rattle.std.proofs.Common.{◌≡◌, take, arith, subst, sym, ◌∙◌}
use Rattle.std.proofs.lemmas.List.{take_all}
use Rattle.fill_region.proofs.SomeRuns.{AreNear, one_near, one_far, some_of}
use Rattle.fill_region.proofs.near.runs_near.Goals as goal
use Rattle.fill_region.proofs.near.runs_near.Goals.{then-meets+in_ok-push, else-meets}

pub runs-preserved : goal.runs-preserved
runs-preserved c = elim c.if-meets.branch [
  | then-meets+in_ok-push w ↦ rw (w.near-is) (rw (w.in_ok-push.ensures.items)
      (one_near c.args.runs.now c.args.frame.now c.runs.near.items c.runs.rect-index c.rect-item.result c.runs-test.true c.rect-item.is (sym c.meets.ensures ∙ w.if-meets.true) c.runs.invariant))
  | else-meets w ↦ rw (w.near-is) (one_far c.args.runs.now c.args.frame.now c.runs.near.items c.runs.rect-index c.rect-item.result c.runs-test.true c.rect-item.is (sym c.meets.ensures ∙ w.if-meets.false) c.runs.invariant)
]

pub returns : goal.returns
returns c =
    let whole : take c.runs.rect-index c.args.runs.now ≡ c.args.runs.now = take_all c.runs.rect-index c.args.runs.now (omega (arith, c.runs-test.false)) in
    let near : AreNear c.args.runs.now c.args.runs.now c.args.frame.now c.runs.near.items = subst (λ rs. AreNear c.args.runs.now rs c.args.frame.now c.runs.near.items) whole c.runs.invariant in
    record { near = near.filtered; runs = some_of c.args.runs.now c.runs.near.items near.among; squares = near.same; among = near.among }
