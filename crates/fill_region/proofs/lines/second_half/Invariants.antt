use Rattle.std.proofs.Common.{◌≡◌, ℤ, take}
use Rattle.fill_bands.specs.Squares.{covered}
use Rattle.fill_region.specs.Steps.{behind}
use Rattle.fill_region.proofs.lines.second_half.Given as goal

abbrev pub invariant-rects : goal.invariant-rects
invariant-rects l = (x y : ℤ) → covered l.parts.items x y ≡ behind l.line (covered (take l.rect-index l.rects)) x y
