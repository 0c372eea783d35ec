use Rattle.std.proofs.Common.{ap, sym}
use Rattle.fill_core.specs.Machine.{State}
use Rattle.fill_book.proofs.Accounted.{at_view}
use Rattle.fill_book.proofs.book.BookOfFillBook.version.Goals as goal

pub returns : goal.returns
returns g c = sym (ap (λ (s : State). s.version) (at_view c.self.invariant.0 c.self.view_is).state)
