use Rattle.std.proofs.Common.{◌*◌}
use Rattle.fill_region.specs.Runs.{holds}
use Rattle.fill_area.specs.steps.Measured.{AreFirst}
use Rattle.fill_area.proofs.measure.areas_in.Given as goal

abbrev pub invariant-loop-b : goal.invariant-loop-b
invariant-loop-b l = AreFirst (holds l.region) l.windows (l.b * l.windows.across.count) l.areas.items
