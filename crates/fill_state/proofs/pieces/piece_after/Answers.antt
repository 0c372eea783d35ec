use Rattle.std.proofs.Common.{sym, subst, List}
use Rattle.std.proofs.lemmas.Result.{IfOk-weaker}
use Rattle.fill_state.specs.Layers.{in_layer}
use Rattle.fill_base.specs.Squares.{squares}
use Rattle.fill_size.proofs.Ranges.{spacing_read}
use Rattle.fill_region.specs.Runs.{Sides}
use Rattle.fill_core.specs.Machine.{metal_after}
use Rattle.fill_text.specs.declared.script.Edit.TheVariants.{Add, Cut, Keep}
use Rattle.fill_state.specs.Pieces.{IsPiece}
use Rattle.fill_state.proofs.HaloMetal.{added_beside, added_piece, cut_beside, cut_piece, kept_piece, still_piece}
use Rattle.fill_state.proofs.pieces.piece_after.Goals as goal

pub returns-in_ok-with_rect-in-Some : goal.returns-in_ok-with_rect-in-Some
returns-in_ok-with_rect-in-Some c =
    let r = c.args.raster.now in let d = c.args.distance in
    let bounds = rw (spacing_read d c.requires.distance) at c.halo-halo.ensures.squares in
    let piece = added_piece r d (in_layer c.args._was.now) c.args.piece.now c.in_ok-with_rect-in-Some.field-0 c.in-Add.rect c.halo-halo.result c.args.tile (squares c.in-Some.part) c.requires.piece bounds c.in-Some.ensures.some (rw c.region.ensures at c.in_ok-with_rect-in-Some.ensures.squares) in
    rw c.in-Add.is (IfOk-weaker c.new.result _ _ (λ q e. subst (λ (b : List Sides). IsPiece r d (metal_after (Add c.in-Add.rect) (in_layer c.args._was.now)) c.args.tile b) (sym e) piece) c.new.ensures)

pub returns-in-None : goal.returns-in-None
returns-in-None c =
    let r = c.args.raster.now in let d = c.args.distance in
    let bounds = rw (spacing_read d c.requires.distance) at c.halo-halo.ensures.squares in
    let piece = kept_piece r d (in_layer c.args._was.now) c.args.piece.now (Add c.in-Add.rect) c.in-Add.rect c.halo-halo.result c.args.tile c.requires.piece (added_beside c.in-Add.rect (in_layer c.args._was.now)) bounds c.in-None.ensures.none in
    rw c.in-Add.is (IfOk-weaker c.share.result _ _ (λ q e. subst (λ (b : List Sides). IsPiece r d (metal_after (Add c.in-Add.rect) (in_layer c.args._was.now)) c.args.tile b) (sym e) piece) c.share.ensures)

pub returns-in_ok-without_rect-in-Some-clip : goal.returns-in_ok-without_rect-in-Some-clip
returns-in_ok-without_rect-in-Some-clip c =
    let r = c.args.raster.now in let d = c.args.distance in
    let bounds = rw (spacing_read d c.requires.distance) at c.halo-halo.ensures.squares in
    let piece = cut_piece r d (in_layer c.args._was.now) c.args.piece.now c.in_ok-without_rect-in-Some-clip.field-0 c.in-Cut.rect c.halo-halo.result c.args.tile (squares c.in-Some-clip.part) c.requires.piece bounds c.in-Some-clip.ensures.some (rw c.region-in-Some-clip.ensures at c.in_ok-without_rect-in-Some-clip.ensures.squares) in
    rw c.in-Cut.is (IfOk-weaker c.new-in-Some-clip.result _ _ (λ q e. subst (λ (b : List Sides). IsPiece r d (metal_after (Cut c.in-Cut.rect) (in_layer c.args._was.now)) c.args.tile b) (sym e) piece) c.new-in-Some-clip.ensures)

pub returns-in-None-clip : goal.returns-in-None-clip
returns-in-None-clip c =
    let r = c.args.raster.now in let d = c.args.distance in
    let bounds = rw (spacing_read d c.requires.distance) at c.halo-halo.ensures.squares in
    let piece = kept_piece r d (in_layer c.args._was.now) c.args.piece.now (Cut c.in-Cut.rect) c.in-Cut.rect c.halo-halo.result c.args.tile c.requires.piece (cut_beside c.in-Cut.rect (in_layer c.args._was.now)) bounds c.in-None-clip.ensures.none in
    rw c.in-Cut.is (IfOk-weaker c.share-in-None-clip.result _ _ (λ q e. subst (λ (b : List Sides). IsPiece r d (metal_after (Cut c.in-Cut.rect) (in_layer c.args._was.now)) c.args.tile b) (sym e) piece) c.share-in-None-clip.ensures)

pub returns-in-Keep : goal.returns-in-Keep
returns-in-Keep c =
    let r = c.args.raster.now in let d = c.args.distance in
    let piece = still_piece r d (in_layer c.args._was.now) c.args.piece.now c.in-Keep.field-0 c.args.tile c.requires.piece in
    rw c.in-Keep.is (IfOk-weaker c.share-in-Keep.result _ _ (λ q e. subst (λ (b : List Sides). IsPiece r d (metal_after (Keep c.in-Keep.field-0) (in_layer c.args._was.now)) c.args.tile b) (sym e) piece) c.share-in-Keep.ensures)
