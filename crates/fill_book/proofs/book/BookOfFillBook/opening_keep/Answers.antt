use Rattle.std.proofs.Common.{◌∙◌, ap}
use Rattle.fill_core.specs.Accounts.{Account}
use Rattle.fill_book.proofs.book.BookOfFillBook.opening_keep.Goals as goal

pub returns : goal.returns
returns g c = c.region.ensures ∙ ap (λ (a : Account). a.keep) c.self.view_is
