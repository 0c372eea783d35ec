use Rattle.fill_cells.proofs.SkylineAreas.{IsCounted}
use Rattle.fill_cells.proofs.skyline.ended.Given as goal

abbrev pub invariant-loop-tower : goal.invariant-loop-tower
invariant-loop-tower l = IsCounted l.towers l.fn.column l.count l.tower-index
