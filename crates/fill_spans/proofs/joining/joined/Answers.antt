use Rattle.std.proofs.Common.{◌≤◌, ◌+◌, length, arith, to_z, w32}
use Rattle.fill_spans.proofs.OpenInterval.{joins_begin, joins_turn, joins_canonical, joins_all}
use Rattle.fill_spans.proofs.joining.joined.Goals as goal

pub loop-rect-init : goal.loop-rect-init
loop-rect-init c = joins_begin c.args.rects.now c.in-Some.rest.now c.in-Some.first.now c.x1.result c.x2-end.result c.push.new.self.items c.in-Some.ensures.cases.0 c.x1.ensures c.x2-end.ensures
    (rw c.in_ok-edges.ensures.items at c.in_ok-push.ensures.items)

pub loop-rect-preserved : goal.loop-rect-preserved
loop-rect-preserved c = joins_turn c.args.rects.now c.in-Some.rest.now c.in-Some.first.now c.rect-item.result c.loop-rect.rect-index c.loop-rect.edges.items c.put_gap.new.edges.items
    (to_z w32 c.loop-rect.end-bits) c.x1-in-loop-rect.result c.x2.result c.max-end.result c.in-Some.ensures.cases.0 c.loop-rect-test.true c.rect-item.is c.requires
    c.x1-in-loop-rect.ensures c.x2.ensures c.in_ok-put_gap.ensures c.max-end.ensures.value c.loop-rect.invariant

pub returns-clause-canonical : goal.returns-clause-canonical
returns-clause-canonical c = rw c.shrink_to_fit.ensures.items (rw c.in_ok-push-2.ensures.items (joins_canonical c.args.rects.now c.loop-rect.rect-index c.loop-rect.edges.items (to_z w32 c.loop-rect.end-bits) c.in-Some.first.now c.loop-rect.invariant))

pub returns-clause-members : goal.returns-clause-members
returns-clause-members c =
    let all : length c.args.rects.now ≤ c.loop-rect.rect-index + 1 = rw c.in-Some.ensures.cases.0 (omega arith) in
    rw c.shrink_to_fit.ensures.items (rw c.in_ok-push-2.ensures.items (joins_all c.args.rects.now c.loop-rect.rect-index c.loop-rect.edges.items (to_z w32 c.loop-rect.end-bits) c.loop-rect.invariant all))
