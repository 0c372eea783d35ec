use Rattle.std.proofs.Common.{◌≡◌, take, arith, subst}
use Rattle.std.proofs.lemmas.List.{take_all}
use Rattle.fill_region.specs.Steps.{AreGoneOn}
use Rattle.fill_region.proofs.Stacking.{none_gone_on, one_ended, one_gone_on, upper_row}
use Rattle.fill_region.proofs.stacks.going_on.Goals as goal
use Rattle.fill_region.proofs.stacks.going_on.Goals.{in-Some+in_ok-push-in-Some, in-None+in_ok-push-in-None}

pub lower-init : goal.lower-init
lower-init c = λ p at m. rw (c.new-runs.ensures.items) (none_gone_on p c.args.upper.now c.args.ended.now.items)

pub lower-preserved : goal.lower-preserved
lower-preserved c = λ p at m. elim c.match-upon.branch [
  | in-Some+in_ok-push-in-Some w ↦ rw (w.runs-is, w.ended-is) (rw (w.in_ok-push-in-Some.ensures.items)
      (one_gone_on p at c.args.lower.now c.args.upper.now c.args.ended.now.items c.lower.runs.items c.lower.ended.items c.lower.rect-index c.rect-item.result w.in-Some.above w.both.result m c.lower-test.true c.rect-item.is
      w.in-Some.ensures.among w.in-Some.ensures.some w.both.ensures (c.lower.invariant p at m)))
  | in-None+in_ok-push-in-None w ↦ rw (w.runs-is, w.ended-is) (rw (w.in_ok-push-in-None.ensures.items)
      (one_ended p at c.args.lower.now c.args.upper.now c.args.ended.now.items c.lower.runs.items c.lower.ended.items c.lower.rect-index c.rect-item.result m c.lower-test.true c.rect-item.is
      (w.in-None.ensures.none (upper_row p at c.args.lower.now c.args.upper.now m)) (c.lower.invariant p at m)))
]

pub returns : goal.returns
returns c = λ p at m. let whole : take c.lower.rect-index c.args.lower.now ≡ c.args.lower.now = take_all c.lower.rect-index c.args.lower.now (omega (arith, c.lower-test.false)) in
    subst (λ rs. AreGoneOn p rs c.args.upper.now c.args.ended.now.items c.lower.runs.items c.lower.ended.items) whole (c.lower.invariant p at m)
