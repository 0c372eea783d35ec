use Rattle.fill_sums.proofs.Changing.{all_areas}
use Rattle.fill_sums.proofs.sums.Sums.totals.Goals as goal

pub returns-clause-bounded : goal.returns-clause-bounded
returns-clause-bounded c = rw c.deref.ensures.value (all_areas c.self.inside.windows c.self.inside.total.items c.self.invariant.total)
