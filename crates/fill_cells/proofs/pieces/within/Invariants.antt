use Rattle.std.proofs.Common.{take}
use Rattle.fill_region.specs.Squares.{covered}
use Rattle.fill_cells.specs.steps.Within.{AreWithin}
use Rattle.fill_cells.proofs.pieces.within.Given as goal

abbrev pub invariant-loop-rect : goal.invariant-loop-rect
invariant-loop-rect l = AreWithin l.part (covered (take l.rect-index l.rects)) l.list.items
