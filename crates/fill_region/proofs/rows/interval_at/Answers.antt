use Rattle.std.proofs.Common.{◌+◌, ◌<◌, length, arith, ◌∙◌}
use Rattle.fill_base.proofs.Signed.{read_is}
use Rattle.fill_spans.specs.Spans.{next_edge}
use Rattle.fill_region.proofs.EdgesInOrder.{edges_in_order}
use Rattle.fill_region.proofs.Intervals.{sides_same}
use Rattle.fill_region.proofs.RowIntervals.{edge_read}
use Rattle.fill_region.proofs.rows.interval_at.Goals as goal

pub from_edges-requires-clause-wide : goal.from_edges-requires-clause-wide
from_edges-requires-clause-wide c = (edges_in_order c.args.edges.now c.args.k c.edge_at.result c.edge_at-2.result c.from-left.result c.from-right.result c.requires.canonical c.requires.within c.edge_at.ensures c.edge_at-2.ensures c.from-left.ensures c.from-right.ensures).wide

pub from_edges-requires-clause-left : goal.from_edges-requires-clause-left
from_edges-requires-clause-left c = (edges_in_order c.args.edges.now c.args.k c.edge_at.result c.edge_at-2.result c.from-left.result c.from-right.result c.requires.canonical c.requires.within c.edge_at.ensures c.edge_at-2.ensures c.from-left.ensures c.from-right.ensures).low

pub from_edges-requires-clause-right : goal.from_edges-requires-clause-right
from_edges-requires-clause-right c = (edges_in_order c.args.edges.now c.args.k c.edge_at.result c.edge_at-2.result c.from-left.result c.from-right.result c.requires.canonical c.requires.within c.edge_at.ensures c.edge_at-2.ensures c.from-left.ensures c.from-right.ensures).high

pub returns : goal.returns
returns c =
    let r = c.from_edges.result in
    let e = c.from_edges.ensures in
    let es = c.args.edges.now in
    sides_same r.x1 r.y1 r.x2 r.y2 (next_edge es c.args.k) c.args.bottom (next_edge es (c.args.k + 1)) c.args.top
    (e.0 ∙ edge_read es c.args.k c.edge_at.result c.from-left.result c.requires.canonical (let lt : c.args.k < length es = omega (arith, c.requires.within) in lt) c.edge_at.ensures c.from-left.ensures)
    (e.1 ∙ read_is c.args.bottom c.ranges.bottom)
    (e.2 ∙ edge_read es (c.args.k + 1) c.edge_at-2.result c.from-right.result c.requires.canonical c.requires.within c.edge_at-2.ensures c.from-right.ensures)
    (e.3 ∙ read_is c.args.top c.ranges.top)
