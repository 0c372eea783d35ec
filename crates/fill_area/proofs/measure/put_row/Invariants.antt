use Rattle.std.proofs.Common.{◌+◌, ◌*◌}
use Rattle.fill_region.specs.Runs.{holds}
use Rattle.fill_area.specs.steps.Measured.{AreFirst}
use Rattle.fill_area.proofs.measure.put_row.Given as goal

abbrev pub invariant-loop-a : goal.invariant-loop-a
invariant-loop-a l = AreFirst (holds l.region) l.windows (l.b * l.windows.across.count + l.a) l.areas.items
