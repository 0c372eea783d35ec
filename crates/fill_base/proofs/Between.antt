-- Tests of numbers between two ends, and the squares of a rectangle.
use Rattle.std.proofs.Common.{◌≡◌, ◌*◌, ℤ, pos, ◌+ℤ◌, ◌≤ℤ◌, ◌<ℤ◌, refl, arith, ◌∙◌, sym, Bool, true, false, ◌&&◌, ◌||◌}
use Rattle.std.specs.Int.{int_max, int_min}
use Rattle.std.specs.Ordering.{int_eq}
use Rattle.std.proofs.lemmas.Int.{ints, clamps}
use Rattle.fill_base.specs.declared.rect.Rect.{Rect}
use Rattle.fill_base.specs.Counts.{span_len, count_between, is_between, IsCommonPart}
use Rattle.fill_base.specs.Squares.{squares, area_of}
use Rattle.fill_base.proofs.Counting.{sum_between_const, count_between_const}

pub is_between_true : (lo hi x : ℤ) → lo ≤ℤ x → x <ℤ hi → is_between lo hi x ≡ true
is_between_true lo hi x low high = grind (arith, ints)

pub is_between_below : (lo hi x : ℤ) → x <ℤ lo → is_between lo hi x ≡ false
is_between_below lo hi x low = grind (arith, ints)

pub is_between_above : (lo hi x : ℤ) → hi ≤ℤ x → is_between lo hi x ≡ false
is_between_above lo hi x high = grind (arith, ints)

pub is_between_bounds : (lo hi x : ℤ) → is_between lo hi x ≡ true → (lo ≤ℤ x) × (x <ℤ hi)
is_between_bounds lo hi x is = (grind (arith, ints), grind (arith, ints))

-- a range that begins grows by one number
pub between_none : (a x : ℤ) → is_between a a x ≡ false
between_none a x = grind (arith, ints)

pub between_more : (a i x : ℤ) → a ≤ℤ i → is_between a (i +ℤ pos 1) x ≡ is_between a i x || int_eq x i
between_more a i x le = grind (arith, ints)

-- both of two ranges hold what their common part holds
pub is_between_meet : (a b c d lo hi x : ℤ) → lo ≡ int_max a b → hi ≡ int_min c d → is_between lo hi x ≡ is_between a c x && is_between b d x
is_between_meet a b c d lo hi x low high = grind (arith, ints, clamps)

-- ranges without a common part hold nothing together
pub is_between_apart : (a b c d x : ℤ) → int_min c d ≤ℤ int_max a b → is_between a c x && is_between b d x ≡ false
is_between_apart a b c d x apart = grind (arith, ints, clamps)

and_swap : (a b c d : Bool) → (a && b) && (c && d) ≡ (a && c) && (b && d)
and_swap true b true d = refl
and_swap true true false d = refl
and_swap true false false d = refl
and_swap false b c d = refl

-- the area of a rectangle within itself is its width times its height
pub area_of-squares : (r : Rect) → r.x1 ≤ℤ r.x2 → r.y1 ≤ℤ r.y2 → area_of (squares r) r ≡ span_len r.x1 r.x2 * span_len r.y1 r.y2
area_of-squares r wide tall =
    let row : (y : ℤ) → r.y1 ≤ℤ y → y <ℤ r.y2 → count_between (λ x. squares r x y) r.x1 r.x2 ≡ span_len r.x1 r.x2 * 1 =
    λ y low high. count_between_const (λ x. squares r x y) r.x1 r.x2 true wide (λ x left right. rw (is_between_true r.x1 r.x2 x left right, is_between_true r.y1 r.y2 y low high) refl) in
    let whole : area_of (squares r) r ≡ span_len r.y1 r.y2 * (span_len r.x1 r.x2 * 1) = sum_between_const (λ y. count_between (λ x. squares r x y) r.x1 r.x2) r.y1 r.y2 (span_len r.x1 r.x2 * 1) tall row in
    grind (arith, whole)

pub common_part : (a b c d : ℤ) → int_max a c <ℤ int_min b d → IsCommonPart a b c d (int_max a c) (int_min b d)
common_part a b c d lt = record {
  ordered = lt;
  begins = omega (arith, ints, clamps);
  ends = omega (arith, ints, clamps);
  same = λ x. is_between_meet a c b d (int_max a c) (int_min b d) x refl refl;
}

-- the squares that two rectangles share
pub squares_meet : (r s : Rect) (x1 x2 y1 y2 : ℤ) → IsCommonPart r.x1 r.x2 s.x1 s.x2 x1 x2 → IsCommonPart r.y1 r.y2 s.y1 s.y2 y1 y2
    → (x y : ℤ) → is_between x1 x2 x && is_between y1 y2 y ≡ squares r x y && squares s x y
squares_meet r s x1 x2 y1 y2 across up x y = rw (across.same x, up.same y) (and_swap (is_between r.x1 r.x2 x) (is_between s.x1 s.x2 x) (is_between r.y1 r.y2 y) (is_between s.y1 s.y2 y))

-- rectangles whose sides have no common part share no square
pub squares_apart_x : (r s : Rect) → ((x : ℤ) → is_between r.x1 r.x2 x && is_between s.x1 s.x2 x ≡ false) → (x y : ℤ) → squares r x y && squares s x y ≡ false
squares_apart_x r s apart x y = sym (and_swap (is_between r.x1 r.x2 x) (is_between s.x1 s.x2 x) (is_between r.y1 r.y2 y) (is_between s.y1 s.y2 y)) ∙ rw (apart x) refl

pub squares_apart_y : (r s : Rect) → ((y : ℤ) → is_between r.y1 r.y2 y && is_between s.y1 s.y2 y ≡ false) → (x y : ℤ) → squares r x y && squares s x y ≡ false
squares_apart_y r s apart x y = sym (and_swap (is_between r.x1 r.x2 x) (is_between s.x1 s.x2 x) (is_between r.y1 r.y2 y) (is_between s.y1 s.y2 y)) ∙ rw (apart y) (and_false (is_between r.x1 r.x2 x && is_between s.x1 s.x2 x))
  where
    and_false : (b : Bool) → b && false ≡ false
    and_false true = refl
    and_false false = refl
