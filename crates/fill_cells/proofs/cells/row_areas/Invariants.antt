use Rattle.fill_region.specs.Squares.{covered}
use Rattle.fill_cells.proofs.RowAreas.{AreFirstAreas, AreLeft}
use Rattle.fill_cells.proofs.cells.row_areas.Given as goal

abbrev pub invariant-loop-i : goal.invariant-loop-i
invariant-loop-i l = record { areas : AreFirstAreas (covered l.fn.rects.items) l.across l.from l.to l.i l.areas.items; left : AreLeft l.i l.initial.lists.items l.lists.items }
