use Rattle.std.proofs.Common.{◌≡◌, arith}
use Rattle.fill_measure.proofs.Ends.{ends_more}
use Rattle.fill_measure.proofs.cuts.ends_of.Goals as goal

pub loop-a-preserved : goal.loop-a-preserved
loop-a-preserved c = ends_more c.args.parts c.loop-a.a c.extent-begin.result.0 c.extent-begin.result.1 _ _ _ c.loop-a.invariant c.extent-begin.ensures c.in_ok-push.ensures.items c.in_ok-push-2.ensures.items

pub returns-clause-ends : goal.returns-clause-ends
returns-clause-ends c = let all : c.loop-a.a ≡ c.args.parts.axis.count = omega (arith, c.loop-a-test.false, c.loop-a.auto.a-end) in rw all at c.loop-a.invariant.1
