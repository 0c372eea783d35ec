-- Metal within the coordinates, clipped.
use Rattle.std.proofs.Common.{◌≡◌, refl, sym, ℤ, ◌≤ℤ◌, ◌<ℤ◌, arith, Bool, true, false, ◌&&◌}
use Rattle.std.specs.Int.{int_max, int_min}
use Rattle.std.proofs.lemmas.Bool.{and_from, and_parts}
use Rattle.std.proofs.lemmas.Int.{ints, clamps}
use Rattle.fill_base.specs.Coordinates.{lowest, highest}
use Rattle.fill_base.specs.Counts.{is_between}
use Rattle.fill_base.proofs.Between.{is_between_true, is_between_bounds}
use Rattle.fill_parts.specs.Needs.{in_coordinates, is_inside}
use Rattle.fill_parts.specs.Laws.{ClippedAgrees}

one_axis : (l h x : ℤ) → lowest ≤ℤ x → x <ℤ highest → is_between l h x ≡ true → is_between (int_max l lowest) (int_min h highest) x ≡ true
one_axis l h x low high is = let b = is_between_bounds l h x is in let from : l ≤ℤ x = b.0 in let to : x <ℤ h = b.1 in
    is_between_true _ _ x (omega (arith, ints, clamps)) (omega (arith, ints, clamps))

by_set : (p b : Bool) → (p ≡ true → b ≡ true) → p ≡ p && b
by_set true b h = sym (h refl)
by_set false b h = refl

pub clipped : ClippedAgrees
clipped s p range x y inside =
    by_set (p x y) (is_inside (in_coordinates s) x y) (λ h.
    let at = range x y h in
    let parts = and_parts (is_between s.left s.right x) (is_between s.bottom s.top y) inside in
    and_from _ _ (one_axis s.left s.right x at.left at.right parts.0) (one_axis s.bottom s.top y at.bottom at.top parts.1))
