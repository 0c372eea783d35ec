use Rattle.fill_region.proofs.Words.{compared}
use Rattle.fill_region.proofs.stacks.stands_on.Goals as goal

pub returns : goal.returns
returns c = compared c.args.lower.now c.args.upper.now c.y2.result c.y1.result c.x1.result c.x1-2.result c.x2.result c.x2-2.result c.y2.ensures c.y1.ensures c.x1.ensures c.x1-2.ensures c.x2.ensures c.x2-2.ensures
