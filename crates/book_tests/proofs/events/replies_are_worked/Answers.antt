use Rattle.fill_core.proofs.Working.{replies_worked}
use Rattle.book_tests.proofs.events.replies_are_worked.Goals as goal

pub returns : goal.returns
returns c = replies_worked
