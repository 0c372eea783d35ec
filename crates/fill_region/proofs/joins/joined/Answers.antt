use Rattle.std.proofs.Common.{FitsSigned, w64, rules}
use Rattle.fill_base.proofs.Signed.{read_is}
use Rattle.fill_region.proofs.joins.joined.Goals as goal

pub returns-in-Upright : goal.returns-in-Upright
returns-in-Upright c = rw (c.in-Upright.is) (let fits : FitsSigned w64 c.in-Upright.at = search rules in rw (read_is c.in-Upright.at fits) at c.joined_across.ensures)

pub returns-in-Level : goal.returns-in-Level
returns-in-Level c = rw (c.in-Level.is) (let fits : FitsSigned w64 c.in-Level.at = search rules in rw (read_is c.in-Level.at fits) at c.joined_upwards.ensures)
