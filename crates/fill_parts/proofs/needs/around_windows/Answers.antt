use Rattle.std.proofs.Common.{ℕ, ◌-◌, ◌<◌, ◌≤◌, arith}
use Rattle.fill_parts.proofs.RulesAlone.{rises}
use Rattle.fill_parts.proofs.Sides.{edges_apart, first_x, first_y, last_x, last_y}
use Rattle.fill_parts.proofs.needs.around_windows.Goals as goal

least : (n : ℕ) → 0 ≤ n
least n = omega arith

before_last : (m n : ℕ) → m < n → m ≤ n - 1
before_last m n h = omega (arith, h)

pub from_edges-requires-clause-wide : goal.from_edges-requires-clause-wide
from_edges-requires-clause-wide c =
    edges_apart c.x1.result c.x2.result c.rect-first.result.x1 c.rect-last.result.x1 c.rect-last.result.x2 c.x1.ensures c.x2.ensures (first_x c.rect-first.result) (last_x c.rect-last.result)
    (rw (c.rect-first.ensures.left, c.rect-last.ensures.left) (rises c.args.windows.now.across 0 (c.columns.result - 1) c.len.ensures.grid.across.step_is.least (least (c.columns.result - 1)))) c.rect-last.result.wide

pub from_edges-requires-clause-tall : goal.from_edges-requires-clause-tall
from_edges-requires-clause-tall c =
    edges_apart c.y1.result c.y2.result c.rect-first.result.y1 c.rect-last.result.y1 c.rect-last.result.y2 c.y1.ensures c.y2.ensures (first_y c.rect-first.result) (last_y c.rect-last.result)
    (rw (c.rect-first.ensures.bottom, c.rect-last.ensures.bottom) (rises c.args.windows.now.up c.args.rows.now.start (c.args.rows.now.end - 1) c.len.ensures.grid.up.step_is.least (before_last c.args.rows.now.start c.args.rows.now.end c.requires.some)))
    c.rect-last.result.tall
