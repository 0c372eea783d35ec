use Rattle.std.proofs.Common.{◌∙◌}
use Rattle.fill_cells.proofs.Lists.{side_by_side, least_is, most_is, edge_is, least_low, x1_fits, x2_fits, y1_fits, y2_fits}
use Rattle.fill_cells.proofs.pieces.joined_across.Goals as goal

pub from_edges-requires-clause-left : goal.from_edges-requires-clause-left
from_edges-requires-clause-left c = least_low c.args.a.now.x1 c.args.b.now.x1 _ c.args.a.now.left c.args.b.now.left
    (least_is c.args.a.now.x1 c.args.b.now.x1 c.x1.result c.x1-2.result c.min.result (x1_fits c.args.a.now) (x1_fits c.args.b.now) c.x1.ensures c.x1-2.ensures c.min.ensures.value)

pub returns : goal.returns
returns c = side_by_side c.args.a.now c.args.b.now c.from_edges.result c.requires.bottom c.requires.top c.requires.left c.requires.right
    (c.from_edges.ensures.0 ∙ least_is c.args.a.now.x1 c.args.b.now.x1 c.x1.result c.x1-2.result c.min.result (x1_fits c.args.a.now) (x1_fits c.args.b.now) c.x1.ensures c.x1-2.ensures c.min.ensures.value)
    (edge_is c.args.a.now.y1 c.y1.result c.from_edges.result.y1 (y1_fits c.args.a.now) c.y1.ensures c.from_edges.ensures.1)
    (c.from_edges.ensures.2 ∙ most_is c.args.a.now.x2 c.args.b.now.x2 c.x2.result c.x2-2.result c.max.result (x2_fits c.args.a.now) (x2_fits c.args.b.now) c.x2.ensures c.x2-2.ensures c.max.ensures.value)
    (edge_is c.args.a.now.y2 c.y2.result c.from_edges.result.y2 (y2_fits c.args.a.now) c.y2.ensures c.from_edges.ensures.3)
