use Rattle.std.proofs.Common.{◌≡◌, pos, take}
use Rattle.fill_base.specs.Squares.{area_of}
use Rattle.fill_region.specs.Squares.{covered}
use Rattle.fill_cells.proofs.area.apart_area.Given as goal

abbrev pub invariant-loop-k : goal.invariant-loop-k
invariant-loop-k l = l.area ≡ pos (area_of (covered (take l.k l.rects)) l.part)
