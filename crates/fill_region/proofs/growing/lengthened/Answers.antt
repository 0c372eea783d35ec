use Rattle.std.proofs.Common.{◌≡◌, take, arith, subst, refl, ap, ◌∙◌}
use Rattle.std.proofs.lemmas.List.{take_all}
use Rattle.fill_region.specs.Steps.{AreLengthened}
use Rattle.fill_base.proofs.Areas.{read_x1}
use Rattle.fill_base.proofs.Signed.{read}
use Rattle.fill_region.proofs.Searching.{before_all, before_next, before_this}
use Rattle.fill_region.proofs.Stacking.{lower_row}
use Rattle.fill_region.proofs.Lengthening.{none_longer, one_longer, one_lengthened, one_begins_there}
use Rattle.fill_region.proofs.growing.lengthened.Goals as goal
use Rattle.fill_region.proofs.growing.lengthened.Goals.{in-Some+in_ok-push-in-Some, in-None+in_ok-push-in-None}

pub upper-init : goal.upper-init
upper-init c = (before_all c.args.lower.now c.args.upper.now, rw (c.in_ok-runs.ensures.items) (none_longer c.args.lower.now c.args.upper.now))

pub next_place-place-requires-clause-passed : goal.next_place-place-requires-clause-passed
next_place-place-requires-clause-passed c = rw (ap read c.x1.ensures ∙ read_x1 c.rect-item.result) (before_this c.args.lower.now c.args.upper.now c.upper.place c.upper.rect-index c.rect-item.result c.upper-test.true c.rect-item.is c.upper.invariant.0)

pub next_place-place-requires-clause-within : goal.next_place-place-requires-clause-within
next_place-place-requires-clause-within c = c.upper.invariant.0.within

pub upper-preserved : goal.upper-preserved
upper-preserved c = elim c.match-under.branch [
  | in-Some+in_ok-push-in-Some w ↦ (
    before_next c.args.lower.now c.args.upper.now c.next_place-place.result c.upper.rect-index c.rect-item.result c.requires.upper c.upper-test.true c.rect-item.is (rw (ap read c.x1.ensures ∙ read_x1 c.rect-item.result) at c.next_place-place.ensures),
    rw (w.runs-is) (rw (w.in_ok-push-in-Some.ensures.items)
        (one_longer c.args.lower.now c.args.upper.now c.upper.runs.items c.upper.rect-index c.rect-item.result w.both.result c.requires.upper c.upper-test.true c.rect-item.is
        (ap (λ s. s.left) w.both.ensures ∙ w.in-Some.ensures.some.left) (ap (λ s. s.top) w.both.ensures)
        (λ p at m l. one_lengthened p at c.args.lower.now c.args.upper.now c.upper.runs.items c.upper.rect-index c.rect-item.result w.in-Some.below w.both.result m c.upper-test.true c.rect-item.is
        w.in-Some.ensures.among w.in-Some.ensures.some w.both.ensures l) c.upper.invariant.1)),
  )
  | in-None+in_ok-push-in-None w ↦ (
    before_next c.args.lower.now c.args.upper.now c.next_place-place.result c.upper.rect-index c.rect-item.result c.requires.upper c.upper-test.true c.rect-item.is (rw (ap read c.x1.ensures ∙ read_x1 c.rect-item.result) at c.next_place-place.ensures),
    rw (w.runs-is) (rw (w.in_ok-push-in-None.ensures.items)
        (one_longer c.args.lower.now c.args.upper.now c.upper.runs.items c.upper.rect-index c.rect-item.result c.rect-item.result c.requires.upper c.upper-test.true c.rect-item.is refl refl
        (λ p at m l. one_begins_there p at c.args.lower.now c.args.upper.now c.upper.runs.items c.upper.rect-index c.rect-item.result m c.upper-test.true c.rect-item.is
        (w.in-None.ensures.none (lower_row p at c.args.lower.now c.args.upper.now m)) l) c.upper.invariant.1)),
  )
]

pub returns-clause-runs : goal.returns-clause-runs
returns-clause-runs c = λ p at m. let whole : take c.upper.rect-index c.args.upper.now ≡ c.args.upper.now = take_all c.upper.rect-index c.args.upper.now (omega (arith, c.upper-test.false)) in
    subst (λ rs. AreLengthened p c.args.lower.now rs c.upper.runs.items) whole (c.upper.invariant.1.lengthened p at m)

pub returns-clause-rising : goal.returns-clause-rising
returns-clause-rising c = c.upper.invariant.1.rising

pub returns-clause-tops : goal.returns-clause-tops
returns-clause-tops c = c.upper.invariant.1.tops
