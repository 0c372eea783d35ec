use Rattle.fill_core.proofs.Working.{existing_worked}
use Rattle.book_tests.proofs.events.existing_fill_is_worked.Goals as goal

pub returns : goal.returns
returns c = existing_worked
