use Rattle.std.proofs.Common.{not}
use Rattle.fill_region.specs.Steps.{is_before}
use Rattle.fill_region.proofs.Cutting.{one_part, no_part}
use Rattle.fill_region.proofs.lines.second_half.Goals as goal
use Rattle.fill_region.proofs.lines.second_half.Goals.{in-Some+in_ok-push-in-Some, in-None}

pub rects-preserved : goal.rects-preserved
rects-preserved c = λ x y. elim c.match-part_behind.branch [
  | in-Some+in_ok-push-in-Some w ↦ rw (w.parts-is) (rw (w.in_ok-push-in-Some.ensures.items)
      (one_part (λ x y. not (is_before c.args.line x y)) c.args.rects.now c.rects.parts.items c.rects.rect-index c.rect-item.result w.in-Some.part x y c.rects-test.true c.rect-item.is (w.in-Some.ensures.some x y) (c.rects.invariant x y)))
  | in-None w ↦ rw (w.parts-is) (no_part (λ x y. not (is_before c.args.line x y)) c.args.rects.now c.rects.parts.items c.rects.rect-index c.rect-item.result x y c.rects-test.true c.rect-item.is (w.in-None.ensures.none x y) (c.rects.invariant x y))
]
