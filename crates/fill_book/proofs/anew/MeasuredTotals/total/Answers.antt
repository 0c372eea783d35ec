use Rattle.std.proofs.Common.{refl, ap, sym, ◌∙◌, pos}
use Rattle.fill_state.specs.Layers.{is_drawn}
use Rattle.fill_base.specs.Squares.{area_of}
use Rattle.fill_base.proofs.Signed.{read_is}
use Rattle.fill_area.specs.Density.{option_area}
use Rattle.fill_job.specs.Plans.{PointSet}
use Rattle.fill_state.specs.Filling.{is_filled, left_by, drawn_or_box}
use Rattle.fill_book.specs.Standing.{squares_in}
use Rattle.fill_book.proofs.Measured.{all_left, clear_same}
use Rattle.fill_book.proofs.anew.MeasuredTotals.total.Goals as goal

pub total_in-requires : goal.total_in-requires
total_in-requires c =
    let s = c.args.stored.now in
    clear_same s.filled.raster s.filled.raster (is_filled s.filled) (left_by s.filled c.none.result) (is_drawn s.drawn) (is_drawn s.drawn) refl (λ i j. ap (λ (f : PointSet). f i j) (all_left s.filled c.none.result c.none.ensures.none)) (λ x y. refl) c.requires.clear

pub returns-in-Some : goal.returns-in-Some
returns-in-Some c =
    let s = c.args.stored.now in let p = squares_in s in
    read_is c.total_in.result (record { sfits = c.total_in.type_inv }) ∙ (c.total_in.ensures ∙ ap pos
    (ap (λ (f : PointSet). area_of (drawn_or_box s.filled.raster f (is_drawn s.drawn)) c.in-Some.window) (all_left s.filled c.none.result c.none.ensures.none)
    ∙ sym (c.part.ensures.area p ∙ ap (option_area p) c.in-Some.is)))

pub returns-in-None : goal.returns-in-None
returns-in-None c = let p = squares_in c.args.stored.now in ap pos (sym (c.part.ensures.area p ∙ ap (option_area p) c.in-None.is))
