use Rattle.fill_base.proofs.Areas.{clip_some, clip_none_x, clip_none_y, clip_sides}
use Rattle.fill_base.proofs.rect.Rect.clip.Goals as goal

pub from_edges-requires : goal.from_edges-requires
from_edges-requires c = clip_sides c.args.self.now c.args.other.now c.in_ok-x1.x1 c.in_ok-x1.x2 c.in_ok-y1.y1 c.in_ok-y1.y2
    (rw (c.x1.ensures, c.x2.ensures, c.x1-2.ensures, c.x2-2.ensures) at c.in_ok-x1.ensures.some)
    (rw (c.y1.ensures, c.y2.ensures, c.y1-2.ensures, c.y2-2.ensures) at c.in_ok-y1.ensures.some)

pub returns-clause-some : goal.returns-clause-some
returns-clause-some c =
    let e = c.from_edges.ensures in
    λ x y. rw (e.0, e.1, e.2, e.3) (clip_some c.args.self.now c.args.other.now c.in_ok-x1.x1 c.in_ok-x1.x2 c.in_ok-y1.y1 c.in_ok-y1.y2
    (rw (c.x1.ensures, c.x2.ensures, c.x1-2.ensures, c.x2-2.ensures) at c.in_ok-x1.ensures.some)
    (rw (c.y1.ensures, c.y2.ensures, c.y1-2.ensures, c.y2-2.ensures) at c.in_ok-y1.ensures.some) x y)

pub returns-in_err-x1-clause-none : goal.returns-in_err-x1-clause-none
returns-in_err-x1-clause-none c = rw c.from_residual.ensures (clip_none_x c.args.self.now c.args.other.now
    (λ x. rw (c.x1.ensures, c.x2.ensures, c.x1-2.ensures, c.x2-2.ensures) at (c.in_err-x1.ensures.none x)))

pub returns-in_err-y1-clause-none : goal.returns-in_err-y1-clause-none
returns-in_err-y1-clause-none c = rw c.from_residual-in_err-y1.ensures (clip_none_y c.args.self.now c.args.other.now
    (λ y. rw (c.y1.ensures, c.y2.ensures, c.y1-2.ensures, c.y2-2.ensures) at (c.in_err-y1.ensures.none y)))
