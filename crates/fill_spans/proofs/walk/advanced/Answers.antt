use Rattle.std.proofs.Common.{◌≤ℤ◌, to_z, w64, FitsSigned, rules}
use Rattle.fill_base.specs.Coordinates.{lowest}
use Rattle.fill_base.proofs.Signed.{read, read_is}
use Rattle.fill_spans.proofs.Walking.{Turn, turn, reaches}
use Rattle.fill_spans.proofs.walk.advanced.Goals as goal

turned : (c : goal.In-Some) → Turn c.args.edges.now (read c.args.walk.start) c.walk.next (to_z w64 c.walk.sum-bits) (read c.args.to) c.in-Some.edge
turned c =
    let start : FitsSigned w64 c.args.walk.start = search rules in
    let low : lowest ≤ℤ read c.args.walk.start = rw (read_is c.args.walk.start start) c.requires.low in
    turn c.args.edges.now _ _ _ _ _ c.requires.canonical low c.walk.invariant.0 c.walk.invariant.1 c.in-Some.ensures.some

pub overflow_sub-sum : goal.overflow_sub-sum
overflow_sub-sum c = (turned c).fits

pub walk-preserved : goal.walk-preserved
walk-preserved c = ((turned c).counts, (turned c).not_beyond)

pub returns-clause-reached : goal.returns-clause-reached
returns-clause-reached c = rw (read_is c.args.to c.ranges.to) at (reaches c.args.edges.now _ (read c.args.to) c.walk.invariant.1 c.in_default.ensures.none)
