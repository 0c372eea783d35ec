use Rattle.std.proofs.Common.{ap, subst, ◌∙◌, ◌||◌}
use Rattle.fill_state.specs.Layers.{is_drawn}
use Rattle.fill_core.specs.Boxes.{count_places}
use Rattle.fill_raster.specs.Marks.{is_marked}
use Rattle.fill_state.specs.Filling.{is_filled}
use Rattle.fill_job.specs.Plans.{PointSet}
use Rattle.fill_book.proofs.BoxParts.{same_squares}
use Rattle.fill_book.proofs.Grown.{Grown, grown, more_filled}
use Rattle.fill_book.proofs.stored.Stored.take_in.Given as given
use Rattle.fill_book.proofs.stored.Stored.take_in.Goals as goal

more : (g : given.Over) (c : goal.After-count g) → Grown c.args.self.now.filled.raster (is_filled c.args.self.now.filled) (is_filled c.take_in-2.new.self) c.count-before.result c.count.result
more g c =
    grown _ _ _ _ _ (more_filled (is_filled c.args.self.now.filled) (is_filled c.take_in-2.new.self) (is_marked c.args.marks.now) c.take_in-2.ensures.filled)
    c.count-before.ensures (c.count.ensures ∙ ap (λ r. count_places r (is_filled c.take_in-2.new.self)) c.take_in-2.ensures.raster)

pub overflow_sub-result : goal.overflow_sub-result
overflow_sub-result g c = (more g c).least

pub returns-clause-placed : goal.returns-clause-placed
returns-clause-placed g c = (more g c).sum

pub returns-clause-stands : goal.returns-clause-stands
returns-clause-stands g c =
    let s = c.args.self.now in
    subst (λ (p : PointSet). g.T.Totals.stand_for c.take_in.new.self c.args.windows.now (is_drawn s.drawn) p)
    (same_squares s.filled.raster c.take_in-2.new.self.raster (λ i j. is_filled s.filled i j || is_marked c.args.marks.now i j) (is_filled c.take_in-2.new.self) (is_drawn s.drawn) c.take_in-2.ensures.raster c.take_in-2.ensures.filled) c.take_in.ensures
