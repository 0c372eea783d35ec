use Rattle.fill_cells.proofs.SkylineAreas.{IsRaised}
use Rattle.fill_cells.proofs.skyline.counted_area.Given as goal

abbrev pub invariant-loop-rect : goal.invariant-loop-rect
invariant-loop-rect l = IsRaised l.fn.rects l.rect-items l.towers.items l.part l.rect-index l.area
