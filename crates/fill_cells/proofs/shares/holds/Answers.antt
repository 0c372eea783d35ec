use Rattle.fill_cells.proofs.Gaps.{cut_at_most, cut_at_least}
use Rattle.fill_cells.proofs.shares.holds.Goals as goal

pub returns-then-cuts-k : goal.returns-then-cuts-k
returns-then-cuts-k c high d = (
  cut_at_most c.args.cuts.now c.args.lo c.args.k d c.requires.cuts c.ranges.lo c.requires.within c.if-cuts-k.true,
  cut_at_least c.args.cuts.now c.args.hi c.args.k d c.requires.cuts c.ranges.hi c.requires.within high,
)
