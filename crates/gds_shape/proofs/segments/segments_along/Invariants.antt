use Rattle.std.proofs.Common.{length}
use Rattle.gds_shape.proofs.Segmented.{Segmented}
use Rattle.gds_shape.proofs.segments.segments_along.Given as goal

abbrev pub invariant-segments : goal.invariant-segments
invariant-segments l = Segmented l.half l.before l.after l.corners l.rest l.longer l.made.items

abbrev pub decreases-segments : goal.decreases-segments
decreases-segments l = length l.rest
