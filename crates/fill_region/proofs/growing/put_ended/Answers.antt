use Rattle.std.proofs.Common.{◌≡◌, ◌<ℤ◌, take, arith, subst, sym, ap, ◌∙◌}
use Rattle.std.proofs.lemmas.List.{take_all}
use Rattle.std.proofs.lemmas.List.Elements.{All-contains, All-push}
use Rattle.fill_region.specs.Steps.{AreEnded}
use Rattle.fill_base.proofs.Areas.{read_x1}
use Rattle.fill_base.proofs.Signed.{read}
use Rattle.fill_region.proofs.Searching.{before_all, before_next, before_this}
use Rattle.fill_region.proofs.Stacking.{upper_row}
use Rattle.fill_region.proofs.Lengthening.{none_ended, one_ends, one_goes_on}
use Rattle.fill_region.proofs.growing.put_ended.Goals as goal
use Rattle.fill_region.proofs.growing.put_ended.Goals.{in-Some, in-None+in_ok-push-in-None}

pub lower-init : goal.lower-init
lower-init c = (before_all c.args.upper.now c.args.lower.now, λ p at m. none_ended p c.args.lower.now c.args.upper.now c.args.ended.now.items, λ line low before. before)

pub next_place-place-requires-clause-passed : goal.next_place-place-requires-clause-passed
next_place-place-requires-clause-passed c = rw (ap read c.x1.ensures ∙ read_x1 c.rect-item.result) (before_this c.args.upper.now c.args.lower.now c.lower.place c.lower.rect-index c.rect-item.result c.lower-test.true c.rect-item.is c.lower.invariant.0)

pub next_place-place-requires-clause-within : goal.next_place-place-requires-clause-within
next_place-place-requires-clause-within c = c.lower.invariant.0.within

pub lower-preserved : goal.lower-preserved
lower-preserved c = elim c.match-upon.branch [
  | in-Some w ↦ rw (w.ended-is) (
    before_next c.args.upper.now c.args.lower.now c.next_place-place.result c.lower.rect-index c.rect-item.result c.requires.lower c.lower-test.true c.rect-item.is (rw (ap read c.x1.ensures ∙ read_x1 c.rect-item.result) at c.next_place-place.ensures),
    λ p at m. one_goes_on p c.args.lower.now c.args.upper.now c.args.ended.now.items c.lower.ended.items c.lower.rect-index c.rect-item.result w.in-Some.field-0 c.lower-test.true c.rect-item.is w.in-Some.ensures.among w.in-Some.ensures.some (c.lower.invariant.1 p at m),
    c.lower.invariant.2,
  )
  | in-None+in_ok-push-in-None w ↦ rw (w.ended-is) (rw (w.in_ok-push-in-None.ensures.items) (
    before_next c.args.upper.now c.args.lower.now c.next_place-place.result c.lower.rect-index c.rect-item.result c.requires.lower c.lower-test.true c.rect-item.is (rw (ap read c.x1.ensures ∙ read_x1 c.rect-item.result) at c.next_place-place.ensures),
    λ p at m. one_ends p at c.args.lower.now c.args.upper.now c.args.ended.now.items c.lower.ended.items c.lower.rect-index c.rect-item.result m c.lower-test.true c.rect-item.is
        (w.in-None.ensures.none (upper_row p at c.args.lower.now c.args.upper.now m)) (c.lower.invariant.1 p at m),
    λ line low before. All-push (λ r. r.y2 <ℤ line) c.lower.ended.items c.rect-item.result (c.lower.invariant.2 line low before)
        (All-contains (λ r. r.y2 <ℤ line) c.args.lower.now c.rect-item.result low (c.lower.rect-index, c.lower-test.true, sym c.rect-item.is)),
  ))
]

pub returns-clause-runs : goal.returns-clause-runs
returns-clause-runs c = λ p at m. let whole : take c.lower.rect-index c.args.lower.now ≡ c.args.lower.now = take_all c.lower.rect-index c.args.lower.now (omega (arith, c.lower-test.false)) in
    subst (λ rs. AreEnded p c.args.lower.now c.args.upper.now rs c.args.ended.now.items c.lower.ended.items) whole (c.lower.invariant.1 p at m)

pub returns-clause-below : goal.returns-clause-below
returns-clause-below c = c.lower.invariant.2
