use Rattle.std.proofs.Common.{◌≡◌, ℤ, true, take}
use Rattle.fill_base.specs.Squares.{squares}
use Rattle.fill_bands.specs.Squares.{covered}
use Rattle.fill_region.proofs.changes.hull.Given as goal

abbrev pub invariant-rects : goal.invariant-rects
invariant-rects l = (x y : ℤ) → covered (take l.rect-index l.rects) x y ≡ true → squares l.hull x y ≡ true
