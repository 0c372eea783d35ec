use Rattle.std.proofs.Common.{◌≡◌, ℤ, false, ◌&&◌, take}
use Rattle.fill_base.specs.Squares.{squares}
use Rattle.fill_region.specs.Squares.{covered}
use Rattle.fill_cells.proofs.area.meets_any.Given as goal

abbrev pub invariant-loop-other : goal.invariant-loop-other
invariant-loop-other l = false ≡ l.any → (x y : ℤ) → covered (take l.other-index l.others) x y && squares l.rect x y ≡ false
