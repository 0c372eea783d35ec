use Rattle.fill_size.proofs.Overlaps.{met_test}
use Rattle.fill_size.proofs.clearance.is_met.Goals as goal

pub returns : goal.returns
returns c = met_test c.args.rect.now c.args.left c.args.bottom c.args.right c.args.top c.x1.result c.x2.result c.y1.result c.y2.result c.have_common.result c.have_common-2.result
    c.ranges.left c.ranges.bottom c.ranges.right c.ranges.top c.x1.ensures c.x2.ensures c.y1.ensures c.y2.ensures c.have_common.ensures c.have_common-2.ensures
