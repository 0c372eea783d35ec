use Rattle.fill_cells.proofs.Gaps.{cut_under}
use Rattle.fill_cells.proofs.shares.cut_below.Goals as goal

pub returns-else-cuts-below-clause-below : goal.returns-else-cuts-below-clause-below
returns-else-cuts-below-clause-below c = λ d some. cut_under c.args.cuts.now c.args.lo c.cuts.below d c.requires.cuts c.ranges.lo c.cuts.invariant c.if-cuts-below.false
