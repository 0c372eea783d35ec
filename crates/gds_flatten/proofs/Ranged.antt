-- What copies draw within an extent in range is in range.
use Rattle.std.proofs.Common.{◌≡◌, ℤ, ◌≤ℤ◌, ◌<ℤ◌, true, List, Option, arith, ◌∙◌}
use Rattle.std.specs.Prelude.{int_le, int_lt, filter}
use Rattle.std.proofs.lemmas.Bool.{and_parts}
use Rattle.std.proofs.lemmas.Int.{ints}
use Rattle.fill_base.specs.Coordinates.{IsInRange, highest, lowest}
use Rattle.fill_base.specs.Counts.{is_between}
use Rattle.gds_shape.specs.declared.bounds.Bounds.{Bounds}
use Rattle.gds_shape.specs.Paths.{AreInRange, in_bounds}
use Rattle.gds_cells.specs.Copies.{Copy, drawn}
use Rattle.gds_flatten.specs.steps.Framing.{IsHeld, in_if}
use Rattle.gds_flatten.specs.steps.Idle.{is_full}
use Rattle.gds_flatten.proofs.Sparse.{full_drawn}

pub bounds_range : (b : Bounds) → AreInRange b → (x y : ℤ) → in_bounds b x y ≡ true → IsInRange x y
bounds_range b range x y within =
    let p = and_parts _ _ within in
    let across = edges b.left b.right x p.0 range.0.0.least range.1.0.most in
    let up = edges b.bottom b.top y p.1 range.0.1.least range.1.1.most in
    record { left = across.0; right = across.1; bottom = up.0; top = up.1 }
  where
    edges : (l h z : ℤ) → is_between l h z ≡ true → lowest ≤ℤ l → h ≤ℤ highest → (lowest ≤ℤ z) × (z <ℤ highest)
    edges l h z between low high =
        let q = and_parts _ _ between in
        (from l z q.0 low, to h z q.1 high)
      where
        from : (l z : ℤ) → int_le l z ≡ true → lowest ≤ℤ l → lowest ≤ℤ z
        from l z h low = let g : l ≤ℤ z = grind (arith, ints, h) in omega (arith, ints)

        to : (h z : ℤ) → int_lt z h ≡ true → h ≤ℤ highest → z <ℤ highest
        to h z t high = let g : z <ℤ h = grind (arith, ints, t) in omega (arith, ints)

pub all_in_range : (cs : List Copy) (o : Option Bounds) → IsHeld (filter is_full cs) o → ((x y : ℤ) → in_if o x y ≡ true → IsInRange x y) → (x y : ℤ) → drawn cs x y ≡ true → IsInRange x y
all_in_range cs o held range x y on = range x y (held x y (full_drawn cs x y ∙ on))
