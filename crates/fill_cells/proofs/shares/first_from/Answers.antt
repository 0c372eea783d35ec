use Rattle.fill_cells.proofs.Gaps.{before_past}
use Rattle.fill_cells.proofs.shares.first_from.Goals as goal

pub returns-else-cuts-past-clause-past : goal.returns-else-cuts-past-clause-past
returns-else-cuts-past-clause-past c = λ k d. before_past c.args.cuts.now c.args.hi c.gaps.past k d c.requires.cuts c.ranges.hi c.gaps-test.true c.if-cuts-past.false
