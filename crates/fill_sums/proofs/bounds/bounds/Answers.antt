use Rattle.fill_region.specs.Runs.{holds}
use Rattle.fill_sums.proofs.Enclosing.{bounds_turn, bounds_are, in_rect, no_room}
use Rattle.fill_sums.proofs.bounds.bounds.Goals as goal

pub loop-run-preserved : goal.loop-run-preserved
loop-run-preserved c = bounds_turn c.runs-run-items.result.now c.loop-run.run-index c.run-item.result _ _ _ _ c.x1.result c.x2.result c.y1.result c.y2.result _ _ _ _ c.loop-run.invariant c.loop-run-test.true c.run-item.is
    c.x1.ensures c.x2.ensures c.y1.ensures c.y2.ensures c.min-left.ensures.value c.max-right.ensures.value c.min-bottom.ensures.value c.max-top.ensures.value

pub returns-then-left-right : goal.returns-then-left-right
returns-then-left-right c = λ x y h. in_rect c.from_edges.result _ _ _ _ x y c.from_edges.ensures
    (bounds_are (holds c.args.region.now) c.runs-run-items.result.now c.loop-run.run-index _ _ _ _ c.loop-run.invariant c.loop-run-test.false c.runs-run-items.ensures.cover x y h)

pub returns-else-left-right : goal.returns-else-left-right
returns-else-left-right c = λ x y h. no_room _ _ _ _ x y c.if-left-right.false
    (bounds_are (holds c.args.region.now) c.runs-run-items.result.now c.loop-run.run-index _ _ _ _ c.loop-run.invariant c.loop-run-test.false c.runs-run-items.ensures.cover x y h)
