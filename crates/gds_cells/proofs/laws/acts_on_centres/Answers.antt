use Rattle.gds_cells.proofs.Centres.{acts_on_centres}
use Rattle.gds_cells.proofs.laws.acts_on_centres.Goals as goal

pub returns : goal.returns
returns c = acts_on_centres
