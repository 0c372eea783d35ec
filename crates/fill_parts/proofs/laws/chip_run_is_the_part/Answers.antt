use Rattle.fill_parts.proofs.Running.{chip_run}
use Rattle.fill_parts.proofs.laws.chip_run_is_the_part.Goals as goal

pub returns : goal.returns
returns c = chip_run
