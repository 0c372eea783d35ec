use Rattle.fill_parts.proofs.WindowsAlone.{measures_same}
use Rattle.fill_parts.proofs.laws.smaller_chip_measures_the_same.Goals as goal

pub returns : goal.returns
returns c = measures_same
