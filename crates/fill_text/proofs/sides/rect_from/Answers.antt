use Rattle.std.proofs.Common.{◌∙◌, ap, rules, FitsSigned, w64, option_map}
use Rattle.fill_base.proofs.Signed.{read_is}
use Rattle.fill_base.specs.Sides.{sides_of}
use Rattle.fill_text.proofs.Rectangles.{rect_kept}
use Rattle.fill_text.proofs.sides.rect_from.Goals as goal

pub returns : goal.returns
returns c =
    let f1 : FitsSigned w64 c.args.x1 = search rules in
    let f2 : FitsSigned w64 c.args.y1 = search rules in
    let f3 : FitsSigned w64 c.args.x2 = search rules in
    let f4 : FitsSigned w64 c.args.y2 = search rules in
    let whole = rw (read_is c.args.x1 f1, read_is c.args.y1 f2, read_is c.args.x2 f3, read_is c.args.y2 f4) at c.new.ensures.ok in
    let corners = rw (read_is c.args.x1 f1, read_is c.args.y1 f2, read_is c.args.x2 f3, read_is c.args.y2 f4) at c.new.ensures.corners in
    ap (option_map sides_of) c.ok.ensures.value ∙ rect_kept _ c.new.result whole corners
