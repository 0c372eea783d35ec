use Rattle.fill_cells.proofs.Lists.{piece_more, nothing_more}
use Rattle.fill_cells.proofs.pieces.hold.Goals as goal

pub returns-in_ok-hold_piece-in-Some : goal.returns-in_ok-hold_piece-in-Some
returns-in_ok-hold_piece-in-Some c = piece_more c.args.part.now c.args.rect.now c.in-Some.piece c.args.list.now.items c.hold_piece.new.list.items
    c.in-Some.ensures.some c.in_ok-hold_piece-in-Some.ensures

pub returns-in-None : goal.returns-in-None
returns-in-None c = nothing_more c.args.part.now c.args.rect.now c.args.list.now.items c.in-None.ensures.none
