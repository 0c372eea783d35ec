use Rattle.std.proofs.Common.{◌-◌, ℕ, length}
use Rattle.fill_cells.proofs.Towers.{IsOnTheWay}
use Rattle.fill_cells.proofs.skyline.settle.Given as goal

abbrev pub invariant-towers : goal.invariant-towers
invariant-towers l = (met : ℕ) × IsOnTheWay l.fn.rect l.fn.towers.items l.towers.items l.from l.at l.rest met l.hidden

abbrev pub decreases-towers : goal.decreases-towers
decreases-towers l = length l.towers.items - l.at
