use Rattle.fill_measure.proofs.Placing.{begin_among, end_among, sides_more}
use Rattle.fill_measure.proofs.sides.sides_of.Goals as goal

pub side_at-requires-clause-among : goal.side_at-requires-clause-among
side_at-requires-clause-among c = begin_among c.args.parts c.args.cuts.now c.loop-a.a c.extent-begin.result.0 c.extent-begin.result.1 c.requires.among c.loop-a-test.true c.extent-begin.ensures

pub side_at-requires-in-loop-a-clause-among : goal.side_at-requires-in-loop-a-clause-among
side_at-requires-in-loop-a-clause-among c = end_among c.args.parts c.args.cuts.now c.loop-a.a c.extent-begin.result.0 c.extent-begin.result.1 c.requires.among c.loop-a-test.true c.extent-begin.ensures

pub loop-a-preserved : goal.loop-a-preserved
loop-a-preserved c = sides_more c.args.parts c.args.cuts.now c.loop-a.a c.side_at.result c.side_at-in-loop-a.result c.extent-begin.result.0 c.extent-begin.result.1 c.loop-a.sides.items _ c.extent-begin.ensures
    c.side_at.ensures c.side_at-in-loop-a.ensures c.loop-a.invariant c.in_ok-push.ensures.items
