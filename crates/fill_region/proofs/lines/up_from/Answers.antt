use Rattle.std.proofs.Common.{◌∙◌, ap}
use Rattle.fill_base.proofs.Areas.{read_x1, read_x2, read_y2}
use Rattle.fill_base.proofs.Signed.{read}
use Rattle.fill_region.proofs.Cutting.{upper_part}
use Rattle.fill_region.proofs.Words.{most_read, fits_y1}
use Rattle.fill_region.proofs.lines.up_from.Goals as goal

pub returns-then-at-y2-clause-some : goal.returns-then-at-y2-clause-some
returns-then-at-y2-clause-some c = λ x y.
    let s = c.args.rect.now in
    let r = c.from_edges.result in
    let e = c.from_edges.ensures in
    upper_part s r c.args.at x y (e.0 ∙ (ap read c.x1.ensures ∙ read_x1 s)) (e.2 ∙ (ap read c.x2.ensures ∙ read_x2 s)) (most_read r.y1 c.max-bottom.result c.y1.result s.y1 c.args.at e.1 c.max-bottom.ensures.value c.y1.ensures (fits_y1 s) c.ranges.at) (e.3 ∙ (ap read c.y2-then-at-y2.ensures ∙ read_y2 s))
