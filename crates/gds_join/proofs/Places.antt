-- The place whose box has a given corner.
use Rattle.std.proofs.Common.{◌≡◌, refl, sym, ap, ◌∙◌, ℤ, pos, negsuc, ◌+ℤ◌, ◌-ℤ◌, ◌*ℤ◌, ◌≤ℤ◌, ◌<ℤ◌, arith, w64, FitsSigned, of_z, to_z, true}
use Rattle.std.specs.Int.{int_div_euclid}
use Rattle.std.proofs.lemmas.Int.{ints, by_lt_z}
use Rattle.fill_base.specs.Coordinates.{lowest, highest}
use Rattle.fill_base.specs.declared.rect.Rect.{Rect}
use Rattle.fill_base.proofs.Signed.{read, read_is}
use Rattle.fill_raster.specs.Axes.{IsAxis, box_begin, is_on}
use Rattle.fill_raster.specs.declared.axis.Axis.{Axis}
use Rattle.fill_raster.proofs.Floors.{floor_within, product_lt, within_floor}
use Rattle.fill_raster.proofs.Ranges.{on_in, on_within}
use Rattle.fill_raster.proofs.Reading.{place_read}
use Rattle.gds_join.specs.steps.Far.{IsFar}

-- ---- numbers, read back

pub far_read : (z : ℤ) → IsFar z → read z ≡ z
far_read z is = read_is z (fits z is.least is.most)
  where
    fits : (z : ℤ) → negsuc 1125899906842623 ≤ℤ z → z ≤ℤ pos 1125899906842624 → FitsSigned w64 z
    fits z l h = omega (arith, ints)

near_read : (z : ℤ) → negsuc 4294967295 ≤ℤ z → z ≤ℤ pos 4294967296 → read z ≡ z
near_read z l h = read_is z (fits z l h)
  where
    fits : (z : ℤ) → negsuc 4294967295 ≤ℤ z → z ≤ℤ pos 4294967296 → FitsSigned w64 z
    fits z l h = omega (arith, ints)

less_read : (x o : ℤ) → IsFar x → lowest ≤ℤ o → o ≤ℤ highest → read (x -ℤ o) ≡ x -ℤ o
less_read x o far l h = read_is (x -ℤ o) (fits x o far.least far.most l h)
  where
    fits : (x o : ℤ) → negsuc 1125899906842623 ≤ℤ x → x ≤ℤ pos 1125899906842624 → lowest ≤ℤ o → o ≤ℤ highest → FitsSigned w64 (x -ℤ o)
    fits x o a b c d = omega (arith, ints)

coordinate_read : (z : ℤ) → lowest ≤ℤ z → z ≤ℤ highest → read z ≡ z
coordinate_read z l h = near_read z (low z l) (high z h)
  where
    low : (z : ℤ) → lowest ≤ℤ z → negsuc 4294967295 ≤ℤ z
    low z l = omega (arith, ints)

    high : (z : ℤ) → z ≤ℤ highest → z ≤ℤ pos 4294967296
    high z h = omega (arith, ints)

step_read : (z : ℤ) → pos 1 ≤ℤ z → z ≤ℤ pos 1048576 → read z ≡ z
step_read z l h = near_read z (low z l) (high z h)
  where
    low : (z : ℤ) → pos 1 ≤ℤ z → negsuc 4294967295 ≤ℤ z
    low z l = omega (arith, ints)

    high : (z : ℤ) → z ≤ℤ pos 1048576 → z ≤ℤ pos 4294967296
    high z h = omega (arith, ints)

-- ---- a whole number of steps

quotient : (z i s : ℤ) → pos 1 ≤ℤ s → i *ℤ s ≡ z → int_div_euclid z s ≡ i
quotient z i s one e =
    let q = int_div_euclid z s in
    let up : i ≤ℤ q = within_floor i z s one (equal_le (i *ℤ s) z e) in
    let low : (q *ℤ s) ≤ℤ z = floor_within q z s one (self q) in
    by_lt_z i q (λ lt. absurd (beyond (i *ℤ s) (q *ℤ s) z s one e (product_lt i q s one lt) low)) (λ le. two q i up le)
  where
    self : (a : ℤ) → a ≤ℤ a
    self a = omega (arith, ints)

    equal_le : (a b : ℤ) → a ≡ b → a ≤ℤ b
    equal_le a b e = omega (arith, ints)

    beyond : (m n z s : ℤ) → pos 1 ≤ℤ s → m ≡ z → (m +ℤ s) ≤ℤ n → n ≤ℤ z → ⊥
    beyond m n z s o e h k = omega (arith, ints)

    two : (q i : ℤ) → i ≤ℤ q → q ≤ℤ i → q ≡ i
    two q i h k = omega (arith, ints)

-- what the code divides gives the place, if there is one
pub candidate : (a : Axis) (x i od sd q : ℤ) → IsAxis a → IsFar x → od ≡ a.origin → sd ≡ a.step → q ≡ int_div_euclid (read (read x -ℤ read od)) (read sd)
    → is_on a i ≡ true → box_begin a i ≡ x → read q ≡ i
candidate a x i od sd q is far od_is sd_is q_is on at =
    let o : read od ≡ a.origin = ap read od_is ∙ coordinate_read a.origin is.origin_is.least is.origin_is.most in
    let s : read sd ≡ a.step = ap read sd_is ∙ step_read a.step is.step_is.least is.step_is.most in
    let d : read x -ℤ read od ≡ x -ℤ a.origin = rw (far_read x far, o) refl in
    let e : read (read x -ℤ read od) ≡ x -ℤ a.origin = ap read d ∙ less_read x a.origin far is.origin_is.least is.origin_is.most in
    let r : q ≡ i = q_is ∙ rw (e, s) (quotient (x -ℤ a.origin) i a.step is.step_is.least (taken a.origin (i *ℤ a.step) x at)) in
    ap read r ∙ place_read a i is (on_in a i is.step_is.least (on_within a i on))
  where
    taken : (o m x : ℤ) → o +ℤ m ≡ x → m ≡ x -ℤ o
    taken o m x e = omega (arith, ints)

-- ---- what a comparison says of an edge

pub same_edge : (z c x : ℤ) → z ≡ c → lowest ≤ℤ c → c ≤ℤ highest → IsFar x → of_z w64 z ≡ of_z w64 x → c ≡ x
same_edge z c x zc l h far e =
    let a : read z ≡ c = ap read zc ∙ coordinate_read c l h in
    sym a ∙ (ap (to_z w64) e ∙ far_read x far)

pub other_edge : (z c x : ℤ) → z ≡ c → (of_z w64 z ≡ of_z w64 x → ⊥) → c ≡ x → ⊥
other_edge z c x zc other e = other (ap (of_z w64) (zc ∙ e))

pub left_high : (r : Rect) → r.x1 ≤ℤ highest
left_high r = under r.x1 r.x2 r.wide r.right
  where
    under : (a b : ℤ) → a <ℤ b → b ≤ℤ highest → a ≤ℤ highest
    under a b h k = omega (arith, ints)

pub bottom_high : (r : Rect) → r.y1 ≤ℤ highest
bottom_high r = under r.y1 r.y2 r.tall r.top
  where
    under : (a b : ℤ) → a <ℤ b → b ≤ℤ highest → a ≤ℤ highest
    under a b h k = omega (arith, ints)
