use Rattle.std.proofs.Common.{◌∙◌, ap}
use Rattle.fill_base.proofs.Areas.{read_x1, read_y1, read_y2}
use Rattle.fill_base.proofs.Signed.{read}
use Rattle.fill_region.proofs.Cutting.{left_part}
use Rattle.fill_region.proofs.Words.{least_read, fits_x2}
use Rattle.fill_region.proofs.lines.left_of.Goals as goal

pub returns-then-x1-at-clause-some : goal.returns-then-x1-at-clause-some
returns-then-x1-at-clause-some c = λ x y.
    let s = c.args.rect.now in
    let r = c.from_edges.result in
    let e = c.from_edges.ensures in
    left_part s r c.args.at x y (e.0 ∙ (ap read c.x1-then-x1-at.ensures ∙ read_x1 s)) (least_read r.x2 c.min-right.result c.x2.result s.x2 c.args.at e.2 c.min-right.ensures.value c.x2.ensures (fits_x2 s) c.ranges.at) (e.1 ∙ (ap read c.y1.ensures ∙ read_y1 s)) (e.3 ∙ (ap read c.y2.ensures ∙ read_y2 s))
