use Rattle.std.proofs.Common.{take}
use Rattle.fill_region.specs.Squares.{covered}
use Rattle.fill_cells.specs.steps.Parts.{AreShares}
use Rattle.fill_cells.proofs.shares.share_out.Given as goal

abbrev pub invariant-loop-rect : goal.invariant-loop-rect
invariant-loop-rect l = AreShares l.row l.cuts (covered (take l.rect-index l.rects)) l.lists.items
