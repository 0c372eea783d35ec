use Rattle.densfill_engine.proofs.OneRun.{parts_are_one}
use Rattle.densfill_engine.proofs.laws.parts_are_one_run.Goals as goal

pub returns : goal.returns
returns c = parts_are_one
