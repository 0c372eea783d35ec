use Rattle.std.proofs.Common.{◌∙◌, ap}
use Rattle.fill_base.proofs.Areas.{read_x1, read_x2, read_y1, read_y2}
use Rattle.fill_base.proofs.Signed.{read}
use Rattle.fill_region.proofs.Changing.{aside_yes, aside_no}
use Rattle.fill_region.proofs.changes.is_aside.Goals as goal

pub returns : goal.returns
returns c =
    let r = c.args.first.now in let s = c.args.second.now in
    rw (ap read c.x2.ensures ∙ read_x2 r, ap read c.x1.ensures ∙ read_x1 s, ap read c.x2-2.ensures ∙ read_x2 s, ap read c.x1-2.ensures ∙ read_x1 r, ap read c.y2.ensures ∙ read_y2 r, ap read c.y1.ensures ∙ read_y1 s, ap read c.y2-2.ensures ∙ read_y2 s, ap read c.y1-2.ensures ∙ read_y1 r)
    (aside_yes r.x2 s.x1 s.x2 r.x1 r.y2 s.y1 s.y2 r.y1, aside_no r.x2 s.x1 s.x2 r.x1 r.y2 s.y1 s.y2 r.y1)
