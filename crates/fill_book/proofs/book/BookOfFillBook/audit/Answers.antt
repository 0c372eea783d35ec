use Rattle.std.proofs.Common.{ap, sym, ◌∙◌}
use Rattle.fill_core.specs.Accounts.{terms_of}
use Rattle.fill_book.proofs.Accounted.{at_view, keeping}
use Rattle.fill_book.proofs.book.BookOfFillBook.audit.Goals as goal

pub returns-clause-keeping : goal.returns-clause-keeping
returns-clause-keeping g c = keeping (at_view c.self.invariant.0 c.self.view_is)

pub returns-clause-terms : goal.returns-clause-terms
returns-clause-terms g c = ap terms_of (sym c.self.view_is) ∙ c.self.inside.origin.under
