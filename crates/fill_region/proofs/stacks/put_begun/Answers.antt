use Rattle.std.proofs.Common.{◌≡◌, take, arith, subst}
use Rattle.std.proofs.lemmas.List.{take_all}
use Rattle.fill_region.specs.Steps.{AreBegun}
use Rattle.fill_region.proofs.Stacking.{none_begun, one_there, one_begins, lower_row}
use Rattle.fill_region.proofs.stacks.put_begun.Goals as goal
use Rattle.fill_region.proofs.stacks.put_begun.Goals.{then-not-is_upon+in_ok-push, else-not-is_upon}

pub upper-init : goal.upper-init
upper-init c = λ p at before_ended ended m g. none_begun p c.args.runs.now.items g.are_runs

pub upper-preserved : goal.upper-preserved
upper-preserved c = λ p at before_ended ended m g. elim c.if-not-is_upon.branch [
  | then-not-is_upon+in_ok-push w ↦ rw (w.runs-is) (rw (w.in_ok-push.ensures.items)
      (one_begins p at c.args.lower.now c.args.upper.now c.args.runs.now.items c.upper.runs.items c.upper.rect-index c.rect-item.result m c.upper-test.true c.rect-item.is
      (c.is_upon.ensures.none w.if-not-is_upon.true (lower_row p at c.args.lower.now c.args.upper.now m)) (c.upper.invariant p at before_ended ended m g)))
  | else-not-is_upon w ↦ rw (w.runs-is)
      (one_there p c.args.lower.now c.args.upper.now before_ended c.args.runs.now.items ended c.upper.runs.items c.upper.rect-index c.rect-item.result g c.upper-test.true c.rect-item.is
      (c.is_upon.ensures.some w.if-not-is_upon.false) (c.upper.invariant p at before_ended ended m g))
]

pub returns : goal.returns
returns c = λ p at before_ended ended m g. let whole : take c.upper.rect-index c.args.upper.now ≡ c.args.upper.now = take_all c.upper.rect-index c.args.upper.now (omega (arith, c.upper-test.false)) in
    subst (λ rs. AreBegun p rs c.args.runs.now.items c.upper.runs.items) whole (c.upper.invariant p at before_ended ended m g)
