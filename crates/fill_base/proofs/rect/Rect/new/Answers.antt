use Rattle.std.proofs.Common.{refl}
use Rattle.fill_base.proofs.Signed.{not_le, not_under, read_is}
use Rattle.fill_base.proofs.rect.Rect.new.Goals as goal
use Rattle.fill_base.proofs.rect.Rect.new.Goals.{then-x1-x2-via-then-x1-x2, then-x1-x2-via-else-x1-x2+then-y1-y2}

pub from_edges-requires-clause-wide : goal.from_edges-requires-clause-wide
from_edges-requires-clause-wide c = not_le _ _ c.if-x1-x2.false

pub from_edges-requires-clause-tall : goal.from_edges-requires-clause-tall
from_edges-requires-clause-tall c = not_le _ _ c.if-y1-y2.false

pub returns-then-x1-x2-clause-bad_rect : goal.returns-then-x1-x2-clause-bad_rect
returns-then-x1-x2-clause-bad_rect c =
    let x1 = read_is c.args.x1 c.ranges.x1 in let y1 = read_is c.args.y1 c.ranges.y1 in
    let x2 = read_is c.args.x2 c.ranges.x2 in let y2 = read_is c.args.y2 c.ranges.y2 in
    let within = rw (x1, y1, x2, y2) at c.are_coordinates.ensures in (
      λ e. (
        within.0 c.if-not-are_coordinates.false,
        λ h. elim c.then-x1-x2.branch [
          | then-x1-x2-via-then-x1-x2 w ↦ not_under _ _ (rw (x1, x2) at w.if-x1-x2.true) h.0
          | then-x1-x2-via-else-x1-x2+then-y1-y2 w ↦ not_under _ _ (rw (y1, y2) at w.if-y1-y2.true) h.1
        ],
      ),
      λ h. refl,
    )
