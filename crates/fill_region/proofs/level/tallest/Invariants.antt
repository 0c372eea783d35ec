use Rattle.std.proofs.Common.{take}
use Rattle.fill_region.specs.Near.{IsTallest}
use Rattle.fill_region.proofs.level.tallest.Given as goal

abbrev pub invariant-rects : goal.invariant-rects
invariant-rects l = IsTallest (take l.rect-index l.rects) l.height
