use Rattle.std.proofs.Common.{ap, sym, ◌∙◌}
use Rattle.fill_job.specs.Plans.{PointSet, plan_of}
use Rattle.fill_core.specs.Boxes.{count_places}
use Rattle.fill_core.specs.Machine.{State}
use Rattle.fill_state.specs.Filling.{is_filled}
use Rattle.fill_book.proofs.Accounted.{at_view}
use Rattle.fill_book.proofs.book.BookOfFillBook.count.Goals as goal

pub returns : goal.returns
returns g c =
    let keeps = at_view c.self.invariant.0 c.self.view_is in
    let f = c.self.inside.stored.filled in
    c.count.ensures ∙ (ap (λ r. count_places r (is_filled f)) keeps.fits.raster
    ∙ ap (λ (p : PointSet). count_places (plan_of c.args.self.now.rules).raster p) (sym (ap (λ (s : State). s.fill) keeps.state)))
