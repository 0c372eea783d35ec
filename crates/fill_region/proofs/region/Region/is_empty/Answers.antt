use Rattle.fill_region.proofs.Apart.{empty_Decides}
use Rattle.fill_region.proofs.region.Region.is_empty.Goals as goal

pub returns : goal.returns
returns c = rw (← c.self.view_is) (empty_Decides c.self.inside.runs.items c.self.inside.runs.len c.is_empty.result c.self.invariant.0 c.self.inside.runs.ok.0 c.is_empty.ensures)
