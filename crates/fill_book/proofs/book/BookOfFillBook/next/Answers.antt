use Rattle.std.proofs.Common.{◌≡◌, ap, sym, ◌∙◌, ℕ}
use Rattle.fill_text.specs.Rules.{Values, raster_of}
use Rattle.fill_raster.specs.Lattice.{tiles}
use Rattle.fill_core.specs.Accounts.{Account, state_of}
use Rattle.fill_core.specs.Machine.{State}
use Rattle.fill_core.specs.Tiles.{next_tile}
use Rattle.fill_core.proofs.Searched.{next_first}
use Rattle.fill_state.specs.Tiles.{is_in}
use Rattle.fill_book.proofs.Accounted.{at_view, if_some}
use Rattle.fill_book.proofs.book.BookOfFillBook.next.Goals as goal

pub returns-clause-first : goal.returns-clause-first
returns-clause-first g c =
    let keeps = at_view c.self.invariant.0 c.self.view_is in
    let rules_is : c.self.inside.origin.rules ≡ c.args.self.now.rules = ap (λ (a : Account). a.rules) c.self.view_is in
    let count : c.tiles.result ≡ tiles (raster_of c.args.self.now.rules.numbers) = c.tiles.ensures ∙ ap tiles (c.raster.ensures.raster ∙ ap (λ (v : Values). raster_of v.numbers) rules_is) in
    let taken = ap (λ (s : State). s.tiles_in) keeps.state in
    c.next.ensures ∙ (ap (λ (n : ℕ). next_tile n (is_in c.self.inside.stored.tiles) c.args.from) count ∙ ap (λ f. next_tile (tiles (raster_of c.args.self.now.rules.numbers)) f c.args.from) (sym taken))

pub returns-clause-inside : goal.returns-clause-inside
returns-clause-inside g c =
    if_some c.next.result (λ tile h. (next_first (tiles (raster_of c.args.self.now.rules.numbers)) (state_of c.args.self.now).tiles_in c.args.from tile (sym (returns-clause-first g c) ∙ h)).exists)
