use Rattle.std.proofs.Common.{◌≡◌, false, take}
use Rattle.fill_bands.specs.Squares.{covered}
use Rattle.fill_region.proofs.parts.is_covered.Given as goal

abbrev pub invariant-rects : goal.invariant-rects
invariant-rects l = covered (take l.rect-index l.rects) l.x l.y ≡ false
