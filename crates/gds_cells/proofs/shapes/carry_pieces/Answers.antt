use Rattle.std.proofs.Common.{◌≡◌, ◌∙◌, ◌||◌, ap, arith, length, take}
use Rattle.std.proofs.Math.Seq.{take-length}
use Rattle.fill_base.specs.Squares.{squares}
use Rattle.fill_region.specs.Squares.{covered}
use Rattle.gds_cells.specs.Placements.{carried}
use Rattle.gds_cells.proofs.Carrying.{pieces_next}
use Rattle.gds_cells.proofs.shapes.carry_pieces.Goals as goal

pub pieces-preserved : goal.pieces-preserved
pieces-preserved c = λ x y.
    pieces_next c.args.at.now c.args.pieces.now c.pieces.piece-index c.piece-item.result c.carried_rect.result _ _ _ x y c.pieces-test.true
    (c.carried_rect.ensures x y ∙ ap (λ r. carried c.args.at.now (squares r) x y) c.piece-item.is) c.in_ok-push.ensures.items (c.pieces.invariant x y)

pub returns : goal.returns
returns c = λ x y.
    let end : c.pieces.piece-index ≡ length c.args.pieces.now = omega arith in
    let whole : take c.pieces.piece-index c.args.pieces.now ≡ c.args.pieces.now = ap (λ n. take n c.args.pieces.now) end ∙ take-length c.args.pieces.now in
    c.pieces.invariant x y ∙ ap (λ rs. covered c.args.out.now.items x y || carried c.args.at.now (covered rs) x y) whole
