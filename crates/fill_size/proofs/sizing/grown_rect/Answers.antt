use Rattle.fill_size.proofs.Ranges.{left_grown, bottom_grown, right_grown, top_grown}
use Rattle.fill_size.proofs.sizing.grown_rect.Goals as goal

pub returns-clause-left : goal.returns-clause-left
returns-clause-left c = left_grown c.args.rect.now c.args.d c.x1.result c.from_edges.result.x1 c.requires.growth c.x1.ensures c.from_edges.ensures.0

pub returns-clause-bottom : goal.returns-clause-bottom
returns-clause-bottom c = bottom_grown c.args.rect.now c.args.d c.y1.result c.from_edges.result.y1 c.requires.growth c.y1.ensures c.from_edges.ensures.1

pub returns-clause-right : goal.returns-clause-right
returns-clause-right c = right_grown c.args.rect.now c.args.d c.x2.result c.from_edges.result.x2 c.requires.growth c.x2.ensures c.from_edges.ensures.2

pub returns-clause-top : goal.returns-clause-top
returns-clause-top c = top_grown c.args.rect.now c.args.d c.y2.result c.from_edges.result.y2 c.requires.growth c.y2.ensures c.from_edges.ensures.3
