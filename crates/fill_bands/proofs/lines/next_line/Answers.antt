use Rattle.std.proofs.Common.{to_z, w64}
use Rattle.std.proofs.Math.Facts.{sfits_to_z}
use Rattle.fill_bands.proofs.NextLines.{nearer_line}
use Rattle.fill_bands.proofs.lines.next_line.Goals as goal

pub loop-rect-preserved : goal.loop-rect-preserved
loop-rect-preserved c = nearer_line c.args.later.now c.args.crossing.now c.loop-rect.rect-index c.rect-item.result (to_z w64 c.loop-rect.line-bits) c.y2.result c.min-line.result
    c.loop-rect-test.true c.rect-item.is c.y2.ensures (sfits_to_z c.loop-rect.auto.line-fits) c.min-line.ensures.value c.loop-rect.invariant
