use Rattle.std.proofs.Common.{◌≡◌, ℤ, ◌-ℤ◌, ◌||◌, take}
use Rattle.std.specs.List.{list_any}
use Rattle.fill_region.specs.Squares.{covered}
use Rattle.gds_shape.specs.Paths.{in_bounds}
use Rattle.gds_shape.proofs.segments.put_bounds.Given as goal

abbrev pub invariant-all : goal.invariant-all
invariant-all l = (x y : ℤ) → covered l.out.items x y
    ≡ (covered l.initial.out.items x y || list_any (λ b. in_bounds b (x -ℤ l.fn.by.x) (y -ℤ l.fn.by.y)) (take l.bounds-index l.all))
