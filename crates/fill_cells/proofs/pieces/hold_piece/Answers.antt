use Rattle.std.proofs.Common.{◌∙◌, ◌||◌, ap, sym}
use Rattle.fill_base.specs.Squares.{squares}
use Rattle.fill_region.specs.Squares.{covered}
use Rattle.fill_cells.proofs.Lists.{whole_alone, equal_squares}
use Rattle.fill_cells.proofs.pieces.hold_piece.Goals.{then-eq, else-eq}
use Rattle.fill_cells.proofs.pieces.hold_piece.Goals as goal

pub returns : goal.returns
returns c = elim c.if-eq.branch [
  | then-eq w ↦ whole_alone c.args.part.now c.args.piece c.args.list.now.items c.if-eq.list.items c.put.new.list.items (ap (λ v. v.items) w.list-is ∙ w.clear.ensures.items)
      (equal_squares c.args.piece c.args.part.now (sym c.eq.ensures.eq ∙ w.if-eq.true)) c.in_ok-put.ensures
  | else-eq w ↦ (λ x y here. c.in_ok-put.ensures x y ∙ ap (λ v. covered v.items x y || squares c.args.piece x y) w.list-is)
]
