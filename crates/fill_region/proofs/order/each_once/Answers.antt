use Rattle.std.proofs.Common.{◌≡◌, ◌-◌, ◌<◌, length, arith, inl, inr}
use Rattle.std.proofs.lemmas.List.{take_all}
use Rattle.fill_region.proofs.Ordered.{none_put, one_put, one_passed, all_put, read_before, read_not_before}
use Rattle.fill_region.proofs.order.each_once.Goals as goal
use Rattle.fill_region.proofs.order.each_once.Goals.{then-k-eq0+in_ok-push, then-k-eq0-via-then-k-eq0, then-k-eq0-via-else-k-eq0+then-precedes, else-k-eq0+else-precedes}

pub rects-init : goal.rects-init
rects-init c = rw (c.in_ok-ordered.ensures.items) (none_put c.args.rects.now)

pub rects-preserved : goal.rects-preserved
rects-preserved c = elim c.if-k-eq0.branch [
  | then-k-eq0+in_ok-push w ↦ rw (w.ordered-is) (rw (w.in_ok-push.ensures.items)
      (one_put c.args.rects.now c.rects.k w.index-rects-k-then-k-eq0.result c.rects.ordered.items c.rects-test.true w.index-rects-k-then-k-eq0.is
      (elim w.then-k-eq0.branch [
        | then-k-eq0-via-then-k-eq0 v ↦ inl (let none : c.rects.k ≡ 0 = omega (arith, v.if-k-eq0.true) in none)
        | then-k-eq0-via-else-k-eq0+then-precedes v ↦ inr (
          let some : 0 < c.rects.k = omega (arith, v.if-k-eq0.false) in some,
          let low : c.rects.k - 1 < length c.args.rects.now = omega (arith, c.rects-test.true) in
              read_before c.args.rects.now (c.rects.k - 1) c.rects.k v.index-rects-k.result v.index-rects-k-else-k-eq0.result w.index-rects-k-then-k-eq0.result low c.rects-test.true v.index-rects-k.is v.index-rects-k-else-k-eq0.is
              w.index-rects-k-then-k-eq0.is (v.precedes.ensures.yes v.if-precedes.true),
        )
      ]) c.rects.invariant))
  | else-k-eq0+else-precedes w ↦ rw (w.ordered-is)
      (let low : c.rects.k - 1 < length c.args.rects.now = omega (arith, c.rects-test.true) in
      one_passed c.args.rects.now c.rects.k w.index-rects-k-else-k-eq0.result c.rects.ordered.items c.requires c.rects-test.true w.index-rects-k-else-k-eq0.is
      (let some : 0 < c.rects.k = omega (arith, w.if-k-eq0.false) in some)
      (read_not_before c.args.rects.now (c.rects.k - 1) c.rects.k w.index-rects-k.result w.index-rects-k-else-k-eq0.result low c.rects-test.true w.index-rects-k.is w.index-rects-k-else-k-eq0.is (w.precedes.ensures.no w.if-precedes.false))
      c.rects.invariant)
]

pub returns : goal.returns
returns c = all_put c.args.rects.now c.rects.ordered.items c.rects.k (take_all c.rects.k c.args.rects.now (omega (arith, c.rects-test.false))) c.rects.invariant
