use Rattle.std.proofs.Common.{◌∙◌, ap}
use Rattle.fill_base.proofs.Areas.{read_x1, read_x2, read_y1}
use Rattle.fill_base.proofs.Signed.{read}
use Rattle.fill_region.proofs.Cutting.{lower_part}
use Rattle.fill_region.proofs.Words.{least_read, fits_y2}
use Rattle.fill_region.proofs.lines.below.Goals as goal

pub returns-then-y1-at-clause-some : goal.returns-then-y1-at-clause-some
returns-then-y1-at-clause-some c = λ x y.
    let s = c.args.rect.now in
    let r = c.from_edges.result in
    let e = c.from_edges.ensures in
    lower_part s r c.args.at x y (e.0 ∙ (ap read c.x1.ensures ∙ read_x1 s)) (e.2 ∙ (ap read c.x2.ensures ∙ read_x2 s)) (e.1 ∙ (ap read c.y1-then-y1-at.ensures ∙ read_y1 s)) (least_read r.y2 c.min-top.result c.y2.result s.y2 c.args.at e.3 c.min-top.ensures.value c.y2.ensures (fits_y2 s) c.ranges.at)
