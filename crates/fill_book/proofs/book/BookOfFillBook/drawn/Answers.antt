use Rattle.std.proofs.Common.{◌≡◌, ap, ◌∙◌, pos}
use Rattle.fill_state.specs.Layers.{is_drawn}
use Rattle.fill_base.proofs.Signed.{read_is}
use Rattle.fill_area.specs.Density.{window_area}
use Rattle.fill_area.specs.Grid.{Grid}
use Rattle.fill_text.specs.Rules.{Values, windows_of}
use Rattle.fill_core.specs.Accounts.{Account}
use Rattle.fill_book.proofs.Accounted.{at_view, drawn_is}
use Rattle.fill_book.proofs.book.BookOfFillBook.drawn.Goals as goal

pub returns : goal.returns
returns g c =
    let rules_is : c.self.inside.origin.rules ≡ c.args.self.now.rules = ap (λ (a : Account). a.rules) c.self.view_is in
    let windows_is : c.windows.result ≡ windows_of c.args.self.now.rules = c.windows.ensures ∙ ap (λ (v : Values). windows_of v) rules_is in
    read_is c.drawn.result (record { sfits = c.drawn.type_inv }) ∙ (c.drawn.ensures ∙ ap pos (ap (λ (w : Grid). window_area (is_drawn c.self.inside.stored.drawn) w c.args.a c.args.b) windows_is
    ∙ drawn_is (at_view c.self.invariant.0 c.self.view_is) c.args.a c.args.b))
