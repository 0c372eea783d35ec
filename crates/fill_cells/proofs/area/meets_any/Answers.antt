use Rattle.fill_cells.proofs.SharedAreas.{none_more_met}
use Rattle.fill_cells.proofs.area.meets_any.Goals as goal

pub loop-other-preserved : goal.loop-other-preserved
loop-other-preserved c = none_more_met c.args.others.now c.loop-other.other-index c.other-item.result c.args.rect.now c.loop-other.any c.meets-any.result c.loop-other-test.true c.other-item.is c.loop-other.invariant c.meets-any.ensures
