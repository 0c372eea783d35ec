use Rattle.fill_area.proofs.Axes.{begins_at, ends_at}
use Rattle.fill_area.proofs.windows.Windows.rect.Goals as goal

pub returns-clause-left : goal.returns-clause-left
returns-clause-left c = begins_at _ c.args.a _ _ c.from_edges.result.x1 (rw (c.across.ensures.value) at c.extent-x1.ensures) c.from_edges.ensures.0

pub returns-clause-bottom : goal.returns-clause-bottom
returns-clause-bottom c = begins_at _ c.args.b _ _ c.from_edges.result.y1 (rw (c.up.ensures.value) at c.extent-y1.ensures) c.from_edges.ensures.1

pub returns-clause-right : goal.returns-clause-right
returns-clause-right c = ends_at _ c.args.a _ _ c.from_edges.result.x2 (rw (c.across.ensures.value) at c.extent-x1.ensures) c.from_edges.ensures.2

pub returns-clause-top : goal.returns-clause-top
returns-clause-top c = ends_at _ c.args.b _ _ c.from_edges.result.y2 (rw (c.up.ensures.value) at c.extent-y1.ensures) c.from_edges.ensures.3
