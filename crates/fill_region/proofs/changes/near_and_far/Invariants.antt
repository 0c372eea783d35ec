use Rattle.std.proofs.Common.{take}
use Rattle.fill_region.specs.Changes.{ArePartedBy}
use Rattle.fill_region.proofs.changes.near_and_far.Given as goal

abbrev pub invariant-runs : goal.invariant-runs
invariant-runs l = ArePartedBy l.frame (take l.rect-index l.runs) l.near.items l.far.items
