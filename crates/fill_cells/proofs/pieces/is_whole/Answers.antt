use Rattle.std.proofs.Common.{◌∙◌, sym}
use Rattle.fill_cells.proofs.Lists.{equal_first}
use Rattle.fill_cells.proofs.pieces.is_whole.Goals as goal

pub returns-then-not-is_empty : goal.returns-then-not-is_empty
returns-then-not-is_empty c = λ equal. equal_first c.args.part.now c.index-list-0.result c.args.list.now c.if-not-is_empty.ensures c.index-list-0.is (sym c.eq.ensures.eq ∙ equal)
