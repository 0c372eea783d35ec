use Rattle.fill_measure.proofs.Edging.{edges_put}
use Rattle.fill_measure.proofs.edges.put_edges.Goals as goal

pub loop-rect-preserved : goal.loop-rect-preserved
loop-rect-preserved c = edges_put c.args.direction c.args.rects.now c.rect-item.result c.loop-rect.rect-index c.extent-begin.result.0 c.extent-begin.result.1 c.args.numbers.now.items c.loop-rect.numbers.items c.push.new.self.items c.push-in-loop-rect.new.self.items
    c.loop-rect-test.true c.rect-item.is c.extent-begin.ensures c.in_ok-push.ensures.items c.in_ok-push-2.ensures.items c.loop-rect.invariant
