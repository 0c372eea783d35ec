use Rattle.std.proofs.Common.{sym}
use Rattle.std.proofs.lemmas.Option.{IfSome_then}
use Rattle.fill_cells.proofs.Lists.{with_last_is}
use Rattle.fill_cells.proofs.pieces.with_last.Goals as goal

pub returns : goal.returns
returns c = IfSome_then c.joined.result c.joined.ensures (λ r same. with_last_is c.args.list.now c.args.piece.now c.in_ok-last.last.now r (sym c.in_ok-last.ensures.value) same)
