use Rattle.std.proofs.Common.{arith}
use Rattle.fill_region.specs.Runs.{holds}
use Rattle.fill_area.proofs.RowByRow.{all_rows}
use Rattle.fill_area.proofs.measure.areas_in.Goals as goal

pub returns-clause-areas : goal.returns-clause-areas
returns-clause-areas c = (all_rows (holds c.args.region.now) c.args.windows.now c.loop-b.b c.loop-b.areas.items c.len.ensures.grid (omega (arith, c.loop-b-test.false, c.loop-b.auto.b-end, c.rows-b-end.ensures)) c.loop-b.invariant).0

pub returns-clause-bounded : goal.returns-clause-bounded
returns-clause-bounded c = (all_rows (holds c.args.region.now) c.args.windows.now c.loop-b.b c.loop-b.areas.items c.len.ensures.grid (omega (arith, c.loop-b-test.false, c.loop-b.auto.b-end, c.rows-b-end.ensures)) c.loop-b.invariant).1
