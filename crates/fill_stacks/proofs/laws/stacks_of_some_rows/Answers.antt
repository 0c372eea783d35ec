use Rattle.fill_stacks.proofs.SomeRows.{some_rows}
use Rattle.fill_stacks.proofs.laws.stacks_of_some_rows.Goals as goal

pub returns : goal.returns
returns c = some_rows
