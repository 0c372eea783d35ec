use Rattle.std.proofs.Common.{◌-◌, length}
use Rattle.fill_spans.specs.CountingWalk.{IsWalk, IsNotBeyond}
use Rattle.fill_spans.proofs.Walking.{walk_of}
use Rattle.fill_spans.proofs.walk.advanced.Given as goal

abbrev pub invariant-walk : goal.invariant-walk
invariant-walk l = IsWalk l.edges (walk_of l.start l.next l.sum) × IsNotBeyond l.edges (walk_of l.start l.next l.sum) l.to

abbrev pub decreases-walk : goal.decreases-walk
decreases-walk l = length l.edges - l.next
