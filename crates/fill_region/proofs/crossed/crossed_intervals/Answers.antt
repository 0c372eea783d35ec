use Rattle.std.proofs.Common.{◌≡◌, ◌+◌, ◌≤ℤ◌, take, arith, subst, sym}
use Rattle.std.proofs.lemmas.List.{take_all}
use Rattle.fill_base.specs.declared.rect.Rect.{Rect}
use Rattle.fill_base.proofs.Areas.{read_x1, read_x2}
use Rattle.fill_base.proofs.Signed.{read_is, is_lt, not_lt}
use Rattle.fill_region.proofs.Gaps.{Opened, one_opened, gap_opened, long_opened, all_opened, item_of, first_of, passed_left}
use Rattle.fill_region.proofs.Members.{one_more}
use Rattle.fill_region.proofs.crossed.crossed_intervals.Goals as goal
use Rattle.fill_region.proofs.crossed.crossed_intervals.Goals.{then-x2-x1+in_ok-push, else-x2-x1}

pub rest-init : goal.rest-init
rest-init c =
    let is = c.in-Some.ensures.cases.0 in
    let low = c.requires.low in
    let high = c.requires.high in
    rw (c.in_ok-row.ensures.items, read_is c.args.bottom c.ranges.bottom, read_is c.args.top c.ranges.top, first_of c.args.crossing.now c.in-Some.first.now c.in-Some.rest.now is)
    (one_opened c.in-Some.first.now c.between-last.result c.args.bottom c.args.top (rw (read_is c.args.bottom c.ranges.bottom, read_is c.args.top c.ranges.top) at c.between-last.ensures)
    ((rw is at low) 0 c.in-Some.first.now (omega arith)) ((rw is at high) 0 c.in-Some.first.now (omega arith)))

pub between-last-requires-then-x2-x1-clause-low : goal.between-last-requires-then-x2-x1-clause-low
between-last-requires-then-x2-x1-clause-low c =
    let item = item_of c.args.crossing.now c.in-Some.first.now c.in-Some.rest.now c.rest.rect-index c.rect-item.result c.in-Some.ensures.cases.0 c.rest-test.true c.rect-item.is in
    rw (read_is c.args.bottom c.ranges.bottom) (subst (λ (z : Rect). z.y1 ≤ℤ c.args.bottom) (sym item.1) (c.requires.low (c.rest.rect-index + 1) c.rect-item.result item.0))

pub between-last-requires-then-x2-x1-clause-high : goal.between-last-requires-then-x2-x1-clause-high
between-last-requires-then-x2-x1-clause-high c =
    let item = item_of c.args.crossing.now c.in-Some.first.now c.in-Some.rest.now c.rest.rect-index c.rect-item.result c.in-Some.ensures.cases.0 c.rest-test.true c.rect-item.is in
    rw (read_is c.args.top c.ranges.top) (subst (λ (z : Rect). c.args.top ≤ℤ z.y2) (sym item.1) (c.requires.high (c.rest.rect-index + 1) c.rect-item.result item.0))

pub rest-preserved : goal.rest-preserved
rest-preserved c =
    let d = c.rect-item.result in
    let k = c.rest.rect-index in
    let all = c.args.crossing.now in
    let item = item_of all c.in-Some.first.now c.in-Some.rest.now k d c.in-Some.ensures.cases.0 c.rest-test.true c.rect-item.is in
    let low = subst (λ (z : Rect). z.y1 ≤ℤ c.args.bottom) (sym item.1) (c.requires.low (k + 1) d item.0) in
    let high = subst (λ (z : Rect). c.args.top ≤ℤ z.y2) (sym item.1) (c.requires.high (k + 1) d item.0) in
    let so_far = rw (read_is c.args.bottom c.ranges.bottom, read_is c.args.top c.ranges.top) at c.rest.invariant in
    rw (read_is c.args.bottom c.ranges.bottom, read_is c.args.top c.ranges.top, one_more all (k + 1) d item.0 item.1) (elim c.if-x2-x1.branch [
      | then-x2-x1+in_ok-push w ↦ rw (w.row-is, w.last-is, w.in_ok-push.ensures.items)
          (gap_opened (take (k + 1) all) d c.rest.last w.between-last-then-x2-x1.result c.args.bottom c.args.top c.rest.row.items
          (is_lt c.rest.last.x2 d.x1 (rw (c.x2.ensures, c.x1.ensures, read_x2 c.rest.last, read_x1 d) at w.if-x2-x1.true))
          (rw (read_is c.args.bottom c.ranges.bottom, read_is c.args.top c.ranges.top) at w.between-last-then-x2-x1.ensures) low high so_far)
      | else-x2-x1 w ↦ rw (w.row-is, w.last-is)
          (long_opened (take (k + 1) all) d c.rest.last w.longer-last.result c.args.bottom c.args.top c.rest.row.items
          (not_lt c.rest.last.x2 d.x1 (rw (c.x2.ensures, c.x1.ensures, read_x2 c.rest.last, read_x1 d) at w.if-x2-x1.false))
          (passed_left all (k + 1) d c.requires.rising item.0 item.1) w.longer-last.ensures low high so_far)
    ])

done : (c : goal.In_ok-push-2) → Opened c.args.crossing.now c.args.bottom c.args.top c.rest.row.items c.rest.last
done c =
    let whole : take (c.rest.rect-index + 1) c.args.crossing.now ≡ c.args.crossing.now = take_all (c.rest.rect-index + 1) c.args.crossing.now (rw c.in-Some.ensures.cases.0 (omega (arith, c.rest-test.false))) in
    subst (λ rs. Opened rs c.args.bottom c.args.top c.rest.row.items c.rest.last) whole (rw (read_is c.args.bottom c.ranges.bottom, read_is c.args.top c.ranges.top) at c.rest.invariant)

pub returns-clause-runs : goal.returns-clause-runs
returns-clause-runs c = rw (c.in_ok-push-2.ensures.items) ((all_opened c.args.crossing.now c.args.bottom c.args.top c.rest.row.items c.rest.last (done c)).0)

pub returns-clause-same : goal.returns-clause-same
returns-clause-same c = rw (c.in_ok-push-2.ensures.items) ((done c).same)

pub returns-clause-row : goal.returns-clause-row
returns-clause-row c = rw (c.in_ok-push-2.ensures.items) ((all_opened c.args.crossing.now c.args.bottom c.args.top c.rest.row.items c.rest.last (done c)).1)
