use Rattle.fill_cells.proofs.Gaps.{none_below, none_above, held_by, met_of}
use Rattle.fill_cells.proofs.shares.gaps_met.Goals as goal

pub returns-then-hi-cuts : goal.returns-then-hi-cuts
returns-then-hi-cuts c = none_below c.args.cuts.now c.args.lo c.args.hi c.requires c.ranges.hi c.if-hi-cuts.true

pub returns-then-cuts-lo : goal.returns-then-cuts-lo
returns-then-cuts-lo c = none_above c.args.cuts.now c.args.lo c.args.hi c.requires c.ranges.lo c.if-cuts-lo.true

pub returns-then-holds : goal.returns-then-holds
returns-then-holds c = held_by c.args.cuts.now c.args.lo c.args.hi c.guess-near.result c.requires c.ranges.lo c.ranges.hi c.guess-near.ensures (c.holds.ensures c.if-holds.true)

pub returns : goal.returns
returns c = met_of c.args.cuts.now c.args.lo c.args.hi c.first_past-first.result c.first_from.result c.ranges.lo c.ranges.hi c.first_from.ensures.within c.first_past-first.ensures.first c.first_from.ensures.past
