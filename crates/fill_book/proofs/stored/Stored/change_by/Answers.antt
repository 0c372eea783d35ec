use Rattle.std.proofs.Common.{◌≡◌, ap, subst, ◌∙◌, ℤ}
use Rattle.fill_state.specs.Layers.{in_layer, is_drawn}
use Rattle.fill_text.specs.declared.script.Edit.{Edit}
use Rattle.fill_job.specs.Plans.{PointSet, drawn_squares, low_windows, plan_of}
use Rattle.fill_core.specs.Machine.{fill_after, layers_after, metal_after}
use Rattle.fill_state.specs.Filling.{is_filled, left_by}
use Rattle.fill_book.specs.Keeping.{stored_layers}
use Rattle.fill_book.proofs.Measured.{drawn_edited, squares_same}
use Rattle.fill_book.proofs.stored.Stored.change_by.Goals as goal

pub returns-clause-metal : goal.returns-clause-metal
returns-clause-metal g c = subst (λ (e : Edit). (x y : ℤ) → in_layer c.in_ok-edited.edited.drawn.metal x y ≡ metal_after e (in_layer c.args.self.now.drawn.metal) x y) c.in_ok-edited.ensures.edit c.in_ok-edited.ensures.edited.metal

pub returns-clause-low : goal.returns-clause-low
returns-clause-low g c = λ a b.
    let plan = plan_of c.args.rules.now in let s = c.args.self.now in let f = s.filled in let e = c.in_ok-edited.edited in
    let drawn = drawn_edited s e.drawn c.args.edit (returns-clause-metal g c) c.in_ok-edited.ensures.edited.existing in
    c.in_ok-low.ensures.low a b ∙ ap (λ (p : PointSet). low_windows plan p a b)
    (squares_same plan f.raster (left_by f e.out) (fill_after plan c.args.edit (is_filled f)) (is_drawn e.drawn) (drawn_squares (layers_after c.args.edit (stored_layers s))) c.requires.fits.raster c.in_ok-edited.ensures.left drawn)
