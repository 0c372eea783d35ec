use Rattle.std.proofs.Common.{take}
use Rattle.fill_region.proofs.SomeRuns.{AreNear}
use Rattle.fill_region.proofs.near.runs_near.Given as goal

abbrev pub invariant-runs : goal.invariant-runs
invariant-runs l = AreNear l.runs (take l.rect-index l.runs) l.frame l.near.items
