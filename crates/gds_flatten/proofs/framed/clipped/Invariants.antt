use Rattle.std.proofs.Common.{◌≡◌, ℤ, ◌&&◌, take}
use Rattle.std.specs.List.{flat_map}
use Rattle.std.specs.Vec.{vec_items}
use Rattle.fill_base.specs.Squares.{squares}
use Rattle.fill_region.specs.Squares.{covered}
use Rattle.gds_flatten.proofs.framed.clipped.Given as goal

abbrev pub invariant-parts : goal.invariant-parts
invariant-parts l = (x y : ℤ) → covered l.kept.items x y ≡ (covered (flat_map vec_items (take l.part-index l.parts)) x y && squares l.frame x y)
