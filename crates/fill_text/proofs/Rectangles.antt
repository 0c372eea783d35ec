-- Four numbers make a rectangle exactly where the test of them says so.
use Rattle.std.proofs.Common.{◌↔◌, Some, None, if◌then◌else◌, Result, Ok, Err, option_map, IsOk, IfOk, ◌≡◌, ℤ, ◌<ℤ◌, arith, refl, Bool, true, false, ◌&&◌, inl, inr}
use Rattle.std.specs.Prelude.{int_lt}
use Rattle.std.proofs.lemmas.Bool.{cases_Bool}
use Rattle.std.proofs.lemmas.Int.{ints}
use Rattle.std.specs.Result.{result_ok}
use Rattle.fill_base.specs.declared.rect.Rect.{Rect}
use Rattle.fill_base.specs.declared.rect.RectError.{RectError}
use Rattle.fill_base.specs.Coordinates.{AreCoordinates, IsCoordinate}
use Rattle.fill_base.specs.Sides.{Sides, sides_of}
use Rattle.fill_text.specs.RectTests.{is_coordinate, is_rect, rect_with}

pub both : (a b : Bool) → a && b ≡ true → (a ≡ true) × (b ≡ true)
both true b e = (refl, e)
both false b e = cc e

pub is_coordinate_true : (z : ℤ) → IsCoordinate z → is_coordinate z ≡ true
is_coordinate_true z within = grind (arith, ints)

pub is_coordinate_facts : (z : ℤ) → is_coordinate z ≡ true → IsCoordinate z
is_coordinate_facts z test = record { least = grind (arith, ints); most = grind (arith, ints) }

int_lt_true : (a b : ℤ) → a <ℤ b → int_lt a b ≡ true
int_lt_true a b less = grind (arith, ints)

int_lt_facts : (a b : ℤ) → int_lt a b ≡ true → a <ℤ b
int_lt_facts a b test = grind (arith, ints)

pub is_rect_true : (c : Sides) → AreCoordinates c.left c.bottom c.right c.top → c.left <ℤ c.right → c.bottom <ℤ c.top → is_rect c ≡ true
is_rect_true c within wide tall =
    rw (
      is_coordinate_true c.left within.left_is,
      is_coordinate_true c.bottom within.bottom_is,
      is_coordinate_true c.right within.right_is,
      is_coordinate_true c.top within.top_is,
      int_lt_true c.left c.right wide,
      int_lt_true c.bottom c.top tall,
    ) refl

pub is_rect_facts : (c : Sides) → is_rect c ≡ true → AreCoordinates c.left c.bottom c.right c.top × (c.left <ℤ c.right) × (c.bottom <ℤ c.top)
is_rect_facts c test =
    let (five, tall) = both _ _ test in
    let (four, wide) = both _ _ five in
    let (three, top) = both _ _ four in
    let (two, right) = both _ _ three in
    let (left, bottom) = both _ _ two in (
      record {
        left_is = is_coordinate_facts c.left left;
        bottom_is = is_coordinate_facts c.bottom bottom;
        right_is = is_coordinate_facts c.right right;
        top_is = is_coordinate_facts c.top top;
      },
      int_lt_facts c.left c.right wide,
      int_lt_facts c.bottom c.top tall,
    )

-- what `Rect::new` gives is the rectangle with these corners, if there is one
pub rect_kept : (c : Sides) (r : Result Rect RectError) → (IsOk r ↔ (AreCoordinates c.left c.bottom c.right c.top × (c.left <ℤ c.right) × (c.bottom <ℤ c.top)))
    → IfOk r (λ q. (q.x1 ≡ c.left) × (q.y1 ≡ c.bottom) × (q.x2 ≡ c.right) × (q.y2 ≡ c.top)) → option_map sides_of (result_ok r) ≡ rect_with c
unfolding rect_with
rect_kept c (Ok q) whole corners =
    let (within, wide, tall) = whole.0 refl in
    let test = is_rect_true c within wide tall in
    rw (test, corners.0, corners.1, corners.2, corners.3) refl
rect_kept c (Err e) whole corners = elim (cases_Bool (is_rect c)) [
  | inl test ↦ let never : false ≡ true = whole.1 (is_rect_facts c test) in cc never
  | inr test ↦ rw test refl
]

-- the rectangle of four corners has these corners
pub rect_with_same : (c q : Sides) → Some q ≡ rect_with c → q ≡ c
unfolding rect_with
rect_with_same c q e = by (is_rect c) e
  where
    by : (b : Bool) → Some q ≡ (if b then Some c else None) → q ≡ c
    by true e = cc e
    by false e = cc e
