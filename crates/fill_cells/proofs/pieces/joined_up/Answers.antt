use Rattle.std.proofs.Common.{◌∙◌}
use Rattle.fill_cells.proofs.Lists.{one_above, least_is, most_is, edge_is, x1_fits, x2_fits, y1_fits, y2_fits}
use Rattle.fill_cells.proofs.pieces.joined_up.Goals as goal

pub returns : goal.returns
returns c = one_above c.args.a.now c.args.b.now c.from_edges.result c.requires.left c.requires.right c.requires.bottom c.requires.top
    (edge_is c.args.a.now.x1 c.x1.result c.from_edges.result.x1 (x1_fits c.args.a.now) c.x1.ensures c.from_edges.ensures.0)
    (c.from_edges.ensures.1 ∙ least_is c.args.a.now.y1 c.args.b.now.y1 c.y1.result c.y1-2.result c.min.result (y1_fits c.args.a.now) (y1_fits c.args.b.now) c.y1.ensures c.y1-2.ensures c.min.ensures.value)
    (edge_is c.args.a.now.x2 c.x2.result c.from_edges.result.x2 (x2_fits c.args.a.now) c.x2.ensures c.from_edges.ensures.2)
    (c.from_edges.ensures.3 ∙ most_is c.args.a.now.y2 c.args.b.now.y2 c.y2.result c.y2-2.result c.max.result (y2_fits c.args.a.now) (y2_fits c.args.b.now) c.y2.ensures c.y2-2.ensures c.max.ensures.value)
