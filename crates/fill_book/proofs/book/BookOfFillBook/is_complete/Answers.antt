use Rattle.std.proofs.Common.{◌≡◌, ap, ◌∙◌}
use Rattle.fill_text.specs.Rules.{Values, raster_of}
use Rattle.fill_raster.specs.Lattice.{tiles}
use Rattle.fill_job.specs.Plans.{plan_of}
use Rattle.fill_core.specs.Accounts.{Account, opening_of}
use Rattle.fill_core.specs.Histories.{events_in}
use Rattle.fill_core.specs.Machine.{State}
use Rattle.fill_core.proofs.Replays.{complete_fill, low_of_opening}
use Rattle.fill_book.proofs.Accounted.{at_view}
use Rattle.fill_book.proofs.book.BookOfFillBook.is_complete.Goals as goal

pub returns-clause-complete : goal.returns-clause-complete
returns-clause-complete g c =
    let keeps = at_view c.self.invariant.0 c.self.view_is in
    let rules_is : c.self.inside.origin.rules ≡ c.args.self.now.rules = ap (λ (a : Account). a.rules) c.self.view_is in
    let count : c.tiles.result ≡ tiles (raster_of c.args.self.now.rules.numbers) = c.tiles.ensures ∙ ap tiles (c.raster.ensures.raster ∙ ap (λ (v : Values). raster_of v.numbers) rules_is) in
    let taken = ap (λ (s : State). s.tiles_in) keeps.state in
    rw taken (rw count at c.is_complete.ensures)

pub returns-clause-filled : goal.returns-clause-filled
returns-clause-filled g c =
    let keeps = at_view c.self.invariant.0 c.self.view_is in
    λ h. complete_fill (plan_of c.args.self.now.rules) (opening_of c.args.self.now) (events_in c.args.self.now.history) keeps.plan ((returns-clause-complete g c).0 h)

pub returns-clause-low : goal.returns-clause-low
returns-clause-low g c = low_of_opening (plan_of c.args.self.now.rules) (opening_of c.args.self.now) (events_in c.args.self.now.history)
