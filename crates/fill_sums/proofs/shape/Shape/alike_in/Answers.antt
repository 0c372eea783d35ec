use Rattle.std.proofs.Common.{◌∙◌, ap, sym, pos}
use Rattle.fill_base.proofs.Signed.{read_is}
use Rattle.fill_sums.proofs.Held.{column_in, held_area, none_of}
use Rattle.fill_sums.proofs.Windowed.{range_in}
use Rattle.fill_sums.proofs.shape.Shape.alike_in.Goals as goal

pub returns-then-is_none-clause-alike : goal.returns-then-is_none-clause-alike
returns-then-is_none-clause-alike c a inside =
    let range = range_in c.clamp-from.result c.clamp.result a inside in
    let columns = c.containing.ensures.columns in
    let rows = c.containing.ensures.rows in
    let within = column_in c.args.left c.args.right c.containing.result.0.start c.containing.result.0.end c.clamp-from.result c.clamp.result a c.clamp-from.ensures c.clamp.ensures range.0 range.1 in
    let column = (columns.exact a).0 within in
    let row = (rows.exact c.args.b).0 (c.if-rows-b.true, c.if-b-rows.true) in
    read_is c.area.result (record { sfits = c.area.type_inv })
    ∙ (c.area.ensures ∙ rw c.in-Box.is (ap pos (sym (held_area c.in-Box.rect.now c.args.windows.now a c.args.b c.clip.ensures.grid (c.clip.ensures.none (none_of c.clip.result c.if-is_none.ensures)) column row))))
