use Rattle.std.proofs.Common.{◌≡◌, ℤ, ◌&&◌, ◌||◌, take}
use Rattle.fill_base.specs.Squares.{squares}
use Rattle.fill_region.specs.Squares.{covered}
use Rattle.gds_flatten.proofs.framed.put_clipped.Given as goal

abbrev pub invariant-rects : goal.invariant-rects
invariant-rects l = (x y : ℤ) → covered l.out.items x y ≡ (covered l.initial.out.items x y || (covered (take l.rect-index l.rects) x y && squares l.frame x y))
