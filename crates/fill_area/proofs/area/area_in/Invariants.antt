use Rattle.std.proofs.Common.{◌≡◌, pos, take}
use Rattle.fill_base.specs.Squares.{area_of}
use Rattle.fill_region.specs.Squares.{covered}
use Rattle.fill_area.proofs.area.area_in.Given as goal

abbrev pub invariant-loop-run : goal.invariant-loop-run
invariant-loop-run l = l.total ≡ pos (area_of (covered (take l.run-index l.run-items)) l.window)
