use Rattle.std.proofs.Common.{pos, to_z, w64}
use Rattle.std.proofs.Math.Facts.{sfits_to_z}
use Rattle.fill_size.proofs.Marking.{one_wider}
use Rattle.fill_size.proofs.meeting.widest.Goals as goal

pub loop-range-preserved : goal.loop-range-preserved
loop-range-preserved c = one_wider c.args.ranges.now c.loop-range.range-index (to_z w64 c.loop-range.width-bits) c.max-width.result (pos 0, pos 0) c.requires c.loop-range-test.true
    (sfits_to_z c.loop-range.auto.width-fits) c.max-width.ensures.value c.loop-range.invariant
