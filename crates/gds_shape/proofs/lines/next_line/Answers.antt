use Rattle.std.proofs.Common.{to_z, w64, ap, ◌∙◌}
use Rattle.std.specs.Int.{int_min}
use Rattle.std.proofs.Math.Facts.{sfits_to_z}
use Rattle.gds_shape.proofs.ReadBack.{read_top}
use Rattle.gds_shape.proofs.NextLines.{nearer_line}
use Rattle.gds_shape.proofs.lines.next_line.Goals as goal

pub loop-edge-preserved : goal.loop-edge-preserved
loop-edge-preserved c =
    let line = to_z w64 c.loop-edge.line-bits in
    nearer_line c.args.later.now c.args.crossing.now c.loop-edge.edge-index c.edge-item.result line c.min-line.result
    c.loop-edge-test.true c.edge-item.is (sfits_to_z c.loop-edge.auto.line-fits) (c.min-line.ensures.value ∙ ap (int_min line) (read_top c.edge-item.result)) c.loop-edge.invariant
