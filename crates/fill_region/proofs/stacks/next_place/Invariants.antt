use Rattle.std.proofs.Common.{◌≤◌, ◌-◌, length}
use Rattle.fill_region.specs.Steps.{AreLeftOf}
use Rattle.fill_region.proofs.stacks.next_place.Given as goal

abbrev pub invariant-row : goal.invariant-row
invariant-row l = (l.k ≤ length l.row) × AreLeftOf l.row l.k l.column

abbrev pub decreases-row : goal.decreases-row
decreases-row l = length l.row - l.k
