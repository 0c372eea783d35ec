-- A rectangle's area, as the code multiplies it.
use Rattle.std.proofs.Common.{◌≡◌, true, false, ◌&&◌, refl, ℤ, pos, ◌-ℤ◌, ◌*ℤ◌, ◌≤ℤ◌, ◌<ℤ◌, ap, ◌∙◌, sym, w64, FitsSigned}
use Rattle.fill_base.specs.declared.rect.Rect.{Rect}
use Rattle.fill_base.specs.Coordinates.{lowest, highest}
use Rattle.std.specs.Prelude.{int_lt}
use Rattle.std.specs.Int.{int_max, int_min}
use Rattle.fill_base.specs.Counts.{is_between, IsCommonPart}
use Rattle.fill_base.specs.Squares.{squares, area_of}
use Rattle.fill_base.proofs.Signed.{read, read_is, coordinate_fits, area_fits, area_is, lt_le, le_trans, is_lt, not_lt, fits_max, fits_min}
use Rattle.fill_base.proofs.Between.{area_of-squares, common_part, squares_meet, squares_apart_x, squares_apart_y, is_between_apart}

pub read_x1 : (r : Rect) → read r.x1 ≡ r.x1
read_x1 r = read_is r.x1 (coordinate_fits r.x1 r.left (le_trans r.x1 r.x2 _ (lt_le r.x1 r.x2 r.wide) r.right))

pub read_x2 : (r : Rect) → read r.x2 ≡ r.x2
read_x2 r = read_is r.x2 (coordinate_fits r.x2 (le_trans _ r.x1 r.x2 r.left (lt_le r.x1 r.x2 r.wide)) r.right)

pub read_y1 : (r : Rect) → read r.y1 ≡ r.y1
read_y1 r = read_is r.y1 (coordinate_fits r.y1 r.bottom (le_trans r.y1 r.y2 _ (lt_le r.y1 r.y2 r.tall) r.top))

pub read_y2 : (r : Rect) → read r.y2 ≡ r.y2
read_y2 r = read_is r.y2 (coordinate_fits r.y2 (le_trans _ r.y1 r.y2 r.bottom (lt_le r.y1 r.y2 r.tall)) r.top)

pub area_of_fits : (r : Rect) → FitsSigned w64 (read (read r.x2 -ℤ read r.x1) *ℤ read (read r.y2 -ℤ read r.y1))
area_of_fits r = rw (read_x1 r, read_x2 r, read_y1 r, read_y2 r)
    (area_fits r.x1 r.x2 r.y1 r.y2 r.left (lt_le r.x1 r.x2 r.wide) r.right r.bottom (lt_le r.y1 r.y2 r.tall) r.top)

pub area_of_is : (r : Rect) → read (read (read r.x2 -ℤ read r.x1) *ℤ read (read r.y2 -ℤ read r.y1)) ≡ pos (area_of (squares r) r)
area_of_is r = rw (read_x1 r, read_x2 r, read_y1 r, read_y2 r)
    (area_is r.x1 r.x2 r.y1 r.y2 r.left (lt_le r.x1 r.x2 r.wide) r.right r.bottom (lt_le r.y1 r.y2 r.tall) r.top
    ∙ ap pos (sym (area_of-squares r (lt_le r.x1 r.x2 r.wide) (lt_le r.y1 r.y2 r.tall))))

-- the common part of two ranges, as the code finds it
pub read_common : (a b c d lo hi : ℤ) → FitsSigned w64 a → FitsSigned w64 b → FitsSigned w64 c → FitsSigned w64 d
    → lo ≡ int_max (read a) (read c) → hi ≡ int_min (read b) (read d) → int_lt (read lo) (read hi) ≡ true → IsCommonPart a b c d (read lo) (read hi)
read_common a b c d lo hi fa fb fc fd low high lt =
    let low_is : lo ≡ int_max a c = low ∙ rw (read_is a fa, read_is c fc) refl in
    let high_is : hi ≡ int_min b d = high ∙ rw (read_is b fb, read_is d fd) refl in
    let l : read (int_max a c) ≡ int_max a c = read_is _ (fits_max a c fa fc) in
    let h : read (int_min b d) ≡ int_min b d = read_is _ (fits_min b d fb fd) in
    rw (low_is, high_is, l, h) (common_part a b c d (is_lt _ _ (rw (low_is, high_is, l, h) at lt)))

pub read_apart : (a b c d lo hi : ℤ) → FitsSigned w64 a → FitsSigned w64 b → FitsSigned w64 c → FitsSigned w64 d
    → lo ≡ int_max (read a) (read c) → hi ≡ int_min (read b) (read d) → int_lt (read lo) (read hi) ≡ false
    → (x : ℤ) → is_between a b x && is_between c d x ≡ false
read_apart a b c d lo hi fa fb fc fd low high ge x =
    let low_is : lo ≡ int_max a c = low ∙ rw (read_is a fa, read_is c fc) refl in
    let high_is : hi ≡ int_min b d = high ∙ rw (read_is b fb, read_is d fd) refl in
    let l : read (int_max a c) ≡ int_max a c = read_is _ (fits_max a c fa fc) in
    let h : read (int_min b d) ≡ int_min b d = read_is _ (fits_min b d fb fd) in
    is_between_apart a c b d x (not_lt _ _ (rw (low_is, high_is, l, h) at ge))

-- both parts of a clipped rectangle
pub record Clipped (r s : Rect) (x1 x2 y1 y2 : ℤ) : Type 0 where
  pub across : IsCommonPart r.x1 r.x2 s.x1 s.x2 x1 x2
  pub up : IsCommonPart r.y1 r.y2 s.y1 s.y2 y1 y2
  pub x1_is : read x1 ≡ x1
  pub x2_is : read x2 ≡ x2
  pub y1_is : read y1 ≡ y1
  pub y2_is : read y2 ≡ y2

part_begins : (a b c d lo hi : ℤ) → lowest ≤ℤ a → b ≤ℤ highest → IsCommonPart a b c d lo hi → read lo ≡ lo
part_begins a b c d lo hi low high part = read_is lo (coordinate_fits lo (le_trans _ a lo low part.begins) (le_trans lo hi _ (lt_le lo hi part.ordered) (le_trans hi b _ part.ends high)))

part_ends : (a b c d lo hi : ℤ) → lowest ≤ℤ a → b ≤ℤ highest → IsCommonPart a b c d lo hi → read hi ≡ hi
part_ends a b c d lo hi low high part = read_is hi (coordinate_fits hi (le_trans _ a hi low (le_trans a lo hi part.begins (lt_le lo hi part.ordered))) (le_trans hi b _ part.ends high))

clipped : (r s : Rect) (x1 x2 y1 y2 : ℤ) → IsCommonPart (read r.x1) (read r.x2) (read s.x1) (read s.x2) x1 x2
    → IsCommonPart (read r.y1) (read r.y2) (read s.y1) (read s.y2) y1 y2 → Clipped r s x1 x2 y1 y2
clipped r s x1 x2 y1 y2 h k =
    let a : IsCommonPart r.x1 r.x2 s.x1 s.x2 x1 x2 = rw (read_x1 r, read_x2 r, read_x1 s, read_x2 s) at h in
    let b : IsCommonPart r.y1 r.y2 s.y1 s.y2 y1 y2 = rw (read_y1 r, read_y2 r, read_y1 s, read_y2 s) at k in
    record {
      across = a;
      up = b;
      x1_is = part_begins _ _ _ _ x1 x2 r.left r.right a;
      x2_is = part_ends _ _ _ _ x1 x2 r.left r.right a;
      y1_is = part_begins _ _ _ _ y1 y2 r.bottom r.top b;
      y2_is = part_ends _ _ _ _ y1 y2 r.bottom r.top b;
    }

pub clip_some : (r s : Rect) (x1 x2 y1 y2 : ℤ) → IsCommonPart (read r.x1) (read r.x2) (read s.x1) (read s.x2) x1 x2
    → IsCommonPart (read r.y1) (read r.y2) (read s.y1) (read s.y2) y1 y2
    → (x y : ℤ) → is_between (read x1) (read x2) x && is_between (read y1) (read y2) y ≡ squares r x y && squares s x y
clip_some r s x1 x2 y1 y2 h k x y =
    let c : Clipped r s x1 x2 y1 y2 = clipped r s x1 x2 y1 y2 h k in
    rw (c.x1_is, c.x2_is, c.y1_is, c.y2_is) (squares_meet r s x1 x2 y1 y2 c.across c.up x y)

pub clip_sides : (r s : Rect) (x1 x2 y1 y2 : ℤ) → IsCommonPart (read r.x1) (read r.x2) (read s.x1) (read s.x2) x1 x2
    → IsCommonPart (read r.y1) (read r.y2) (read s.y1) (read s.y2) y1 y2
    → record { wide : read x1 <ℤ read x2; tall : read y1 <ℤ read y2; left : lowest ≤ℤ read x1; bottom : lowest ≤ℤ read y1; right : read x2 ≤ℤ highest; top : read y2 ≤ℤ highest }
clip_sides r s x1 x2 y1 y2 h k =
    let c : Clipped r s x1 x2 y1 y2 = clipped r s x1 x2 y1 y2 h k in
    rw (c.x1_is, c.x2_is, c.y1_is, c.y2_is) (record {
      wide = c.across.ordered;
      tall = c.up.ordered;
      left = le_trans _ r.x1 x1 r.left c.across.begins;
      bottom = le_trans _ r.y1 y1 r.bottom c.up.begins;
      right = le_trans x2 r.x2 _ c.across.ends r.right;
      top = le_trans y2 r.y2 _ c.up.ends r.top;
    })

pub clip_none_x : (r s : Rect) → ((x : ℤ) → is_between (read r.x1) (read r.x2) x && is_between (read s.x1) (read s.x2) x ≡ false)
    → (x y : ℤ) → squares r x y && squares s x y ≡ false
clip_none_x r s h = squares_apart_x r s (λ x. rw (read_x1 r, read_x2 r, read_x1 s, read_x2 s) at (h x))

pub clip_none_y : (r s : Rect) → ((y : ℤ) → is_between (read r.y1) (read r.y2) y && is_between (read s.y1) (read s.y2) y ≡ false)
    → (x y : ℤ) → squares r x y && squares s x y ≡ false
clip_none_y r s h = squares_apart_y r s (λ y. rw (read_y1 r, read_y2 r, read_y1 s, read_y2 s) at (h y))
