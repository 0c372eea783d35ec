use Rattle.fill_core.proofs.Working.{state_worked}
use Rattle.book_tests.proofs.events.state_is_worked.Goals as goal

pub returns : goal.returns
returns c = state_worked
