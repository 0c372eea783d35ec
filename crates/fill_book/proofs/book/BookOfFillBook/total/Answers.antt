use Rattle.std.proofs.Common.{◌≡◌, ap, ◌∙◌, pos}
use Rattle.fill_base.proofs.Signed.{read_is}
use Rattle.fill_area.specs.Density.{window_area}
use Rattle.fill_area.specs.Grid.{Grid}
use Rattle.fill_text.specs.Rules.{Values, windows_of}
use Rattle.fill_core.specs.Accounts.{Account}
use Rattle.fill_book.specs.Standing.{squares_in}
use Rattle.fill_book.proofs.Accounted.{at_view, clear_stored, total_is}
use Rattle.fill_book.proofs.book.BookOfFillBook.total.Goals as goal

pub total-requires-clause-clear : goal.total-requires-clause-clear
total-requires-clause-clear g c = clear_stored c.self.invariant.0

pub returns : goal.returns
returns g c =
    let rules_is : c.self.inside.origin.rules ≡ c.args.self.now.rules = ap (λ (a : Account). a.rules) c.self.view_is in
    let windows_is : c.windows.result ≡ windows_of c.args.self.now.rules = c.windows.ensures ∙ ap (λ (v : Values). windows_of v) rules_is in
    record {
      exact = read_is c.total.result (record { sfits = c.total.type_inv }) ∙ (c.total.ensures ∙ ap pos (ap (λ (w : Grid). window_area (squares_in c.self.inside.stored) w c.args.a c.args.b) windows_is
          ∙ total_is (at_view c.self.invariant.0 c.self.view_is) c.args.a c.args.b));
    }
