use Rattle.std.proofs.Common.{ap, ◌∙◌}
use Rattle.fill_core.specs.Accounts.{Account}
use Rattle.fill_book.proofs.book.BookOfFillBook.rules.Goals as goal

pub returns : goal.returns
returns g c = c.rules.ensures ∙ ap (λ (a : Account). a.rules) c.self.view_is
