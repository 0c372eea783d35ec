use Rattle.std.proofs.Common.{◌∙◌, ap}
use Rattle.fill_base.proofs.Areas.{read_x2, read_y1, read_y2}
use Rattle.fill_base.proofs.Signed.{read}
use Rattle.fill_region.proofs.Cutting.{right_part}
use Rattle.fill_region.proofs.Words.{most_read, fits_x1}
use Rattle.fill_region.proofs.lines.right_from.Goals as goal

pub returns-then-at-x2-clause-some : goal.returns-then-at-x2-clause-some
returns-then-at-x2-clause-some c = λ x y.
    let s = c.args.rect.now in
    let r = c.from_edges.result in
    let e = c.from_edges.ensures in
    right_part s r c.args.at x y (most_read r.x1 c.max-left.result c.x1.result s.x1 c.args.at e.0 c.max-left.ensures.value c.x1.ensures (fits_x1 s) c.ranges.at) (e.2 ∙ (ap read c.x2-then-at-x2.ensures ∙ read_x2 s)) (e.1 ∙ (ap read c.y1.ensures ∙ read_y1 s)) (e.3 ∙ (ap read c.y2.ensures ∙ read_y2 s))
