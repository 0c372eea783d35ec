use Rattle.fill_bands.proofs.RowSteps.{IsBegun, begun, region_in_range}
use Rattle.fill_bands.proofs.set.Bands.rows.Goals as goal
use Rattle.fill_base.proofs.Signed.{read, read_is}

begins : (c : goal.After-max-from) → IsBegun c.bands-bands.result.now c.args.bottom (read c.max-from.result) (read c.args.top) c.max-next.result
begins c = begun c.bands-bands.result.now c.args.bottom c.args.top c.bottom_at.result c.from-first.result c.min.result c.max-from.result c.first_above.result c.max-next.result c.bands-bands.ensures.banded c.ranges.bottom c.ranges.top
    c.first_above.ensures c.max-next.ensures c.bottom_at.ensures c.from-first.ensures c.min.ensures.value c.max-from.ensures.value

pub invariant_of-result : goal.invariant_of-result
invariant_of-result c = (begins c).at

pub returns-clause-passed : goal.returns-clause-passed
returns-clause-passed c = rw c.bands-bands.ensures.bands at (begins c).passed

pub returns-clause-within : goal.returns-clause-within
returns-clause-within c = λ ordered. rw (read_is c.args.top c.ranges.top) at ((begins c).within (rw (read_is c.args.top c.ranges.top) ordered))

pub returns-clause-in_range : goal.returns-clause-in_range
returns-clause-in_range c = λ x y is. region_in_range c.args.self.now x y (rw c.bands-bands.ensures.bands at c.bands-bands.ensures.banded) is
