-- Ranges of numbers that are near, and rectangles that are.
use Rattle.std.proofs.Common.{◌≡◌, ℤ, pos, ◌+ℤ◌, ◌-ℤ◌, ◌≤ℤ◌, ◌<ℤ◌, refl, arith, ◌∙◌, Bool, true, false, ◌&&◌, not, ◌↔◌, w64, FitsSigned}
use Rattle.std.specs.Prelude.{int_lt, IsTrue}
use Rattle.std.specs.Cmp.{first_so, second_so}
use Rattle.std.specs.Int.{int_min, int_max}
use Rattle.std.proofs.lemmas.Bool.{and_from}
use Rattle.std.proofs.lemmas.Int.{ints, clamps, by_lt_z}
use Rattle.fill_base.specs.declared.rect.Rect.{Rect}
use Rattle.fill_base.specs.Coordinates.{lowest, highest, IsCoordinate}
use Rattle.fill_base.specs.Counts.{is_between}
use Rattle.fill_base.specs.Squares.{squares}
use Rattle.fill_base.proofs.Signed.{read, read_is, is_lt, lt_le, le_trans}
use Rattle.fill_base.proofs.Areas.{read_x1, read_x2, read_y1, read_y2}
use Rattle.fill_base.proofs.Between.{is_between_true, is_between_bounds}
use Rattle.fill_base.specs.Limits.{IsSpacing}
use Rattle.fill_size.specs.Distance.{IsNear, InConflict, AreNear, HasSquare}

pub lt_is : (a b : ℤ) → a <ℤ b → int_lt a b ≡ true
lt_is a b h = grind (arith, ints)

pub spacing_read : (s : ℤ) → IsSpacing s → read s ≡ s
spacing_read s is = let least : pos 0 ≤ℤ s = is.least in let most : s ≤ℤ pos 1048576 = is.most in read_is s (omega (arith, ints))

pub coordinate_read : (z : ℤ) → IsCoordinate z → read z ≡ z
coordinate_read z c = let least : lowest ≤ℤ z = c.least in let most : z ≤ℤ highest = c.most in read_is z (omega (arith, ints))

pub grown_read : (z s : ℤ) → IsCoordinate z → IsSpacing s → read (z +ℤ s) ≡ z +ℤ s
grown_read z s c is = let a : lowest ≤ℤ z = c.least in let b : z ≤ℤ highest = c.most in let d : pos 0 ≤ℤ s = is.least in let e : s ≤ℤ pos 1048576 = is.most in read_is _ (omega (arith, ints))

pub shrunk_read : (z s : ℤ) → IsCoordinate z → IsSpacing s → read (z -ℤ s) ≡ z -ℤ s
shrunk_read z s c is = let a : lowest ≤ℤ z = c.least in let b : z ≤ℤ highest = c.most in let d : pos 0 ≤ℤ s = is.least in let e : s ≤ℤ pos 1048576 = is.most in read_is _ (omega (arith, ints))

-- the test of two ranges, as the code makes it
pub near_test : (a b c d s : ℤ) → FitsSigned w64 a → FitsSigned w64 c → IsCoordinate b → IsCoordinate d → IsSpacing s
    → (IsTrue (int_lt (read a) (read (read d +ℤ read s)) && int_lt (read c) (read (read b +ℤ read s))) ↔ AreNear a b c d s)
near_test a b c d s fa fc cb cd is =
    let up : read (read d +ℤ read s) ≡ d +ℤ s = rw (coordinate_read d cd, spacing_read s is) (grown_read d s cd is) in
    let low : read (read b +ℤ read s) ≡ b +ℤ s = rw (coordinate_read b cb, spacing_read s is) (grown_read b s cb is) in
    rw (read_is a fa, read_is c fc, up, low) (
      (λ h. (is_lt _ _ (first_so (int_lt a (d +ℤ s)) (int_lt c (b +ℤ s)) h), is_lt _ _ (second_so (int_lt a (d +ℤ s)) (int_lt c (b +ℤ s)) h))),
      (λ h. and_from (int_lt a (d +ℤ s)) (int_lt c (b +ℤ s)) (lt_is _ _ h.0) (lt_is _ _ h.1)),
    )

-- a number of the first range and one of the second, at most `s` apart
record Pair (a b c d s : ℤ) : Type 0 where
  u : ℤ
  x : ℤ
  u_low : a ≤ℤ u
  u_high : u <ℤ b
  x_low : c ≤ℤ x
  x_high : x <ℤ d
  near : IsNear s x u

near_pair : (a b c d s : ℤ) → a <ℤ b → c <ℤ d → pos 0 ≤ℤ s → AreNear a b c d s → Pair a b c d s
near_pair a b c d s ab cd some (h, k) = by_lt_z a c
    (λ lt. record {
      u = int_min (b -ℤ pos 1) c;
      x = c;
      u_low = omega (arith, ints, clamps);
      u_high = omega (arith, ints, clamps);
      x_low = omega (arith, ints);
      x_high = cd;
      near = record { above = omega (arith, ints, clamps); below = omega (arith, ints, clamps) };
    })
    (λ le. record {
      u = a;
      x = int_min (d -ℤ pos 1) a;
      u_low = omega (arith, ints);
      u_high = ab;
      x_low = omega (arith, ints, clamps);
      x_high = omega (arith, ints, clamps);
      near = record { above = omega (arith, ints, clamps); below = omega (arith, ints, clamps) };
    })

pair_near : (a b c d s u x : ℤ) → a ≤ℤ u → u <ℤ b → c ≤ℤ x → x <ℤ d → IsNear s x u → AreNear a b c d s
pair_near a b c d s u x ul uh xl xh n = let above : (x -ℤ u) ≤ℤ s = n.above in let below : (u -ℤ x) ≤ℤ s = n.below in (omega (arith, ints), omega (arith, ints))

pub squares_true : (r : Rect) (x y : ℤ) → r.x1 ≤ℤ x → x <ℤ r.x2 → r.y1 ≤ℤ y → y <ℤ r.y2 → squares r x y ≡ true
squares_true r x y a b c d = and_from (is_between r.x1 r.x2 x) (is_between r.y1 r.y2 y) (is_between_true r.x1 r.x2 x a b) (is_between_true r.y1 r.y2 y c d)

pub record Inside (r : Rect) (x y : ℤ) : Type 0 where
  pub left : r.x1 ≤ℤ x
  pub right : x <ℤ r.x2
  pub bottom : r.y1 ≤ℤ y
  pub top : y <ℤ r.y2

pub squares_inside : (r : Rect) (x y : ℤ) → squares r x y ≡ true → Inside r x y
squares_inside r x y h =
    let a = is_between_bounds r.x1 r.x2 x (first_so (is_between r.x1 r.x2 x) (is_between r.y1 r.y2 y) h) in
    let b = is_between_bounds r.y1 r.y2 y (second_so (is_between r.x1 r.x2 x) (is_between r.y1 r.y2 y) h) in
    record { left = a.0; right = a.1; bottom = b.0; top = b.1 }

-- rectangles are in conflict where their sides are near in x and in y
pub rects_conflict : (r q : Rect) (s : ℤ) → pos 0 ≤ℤ s → (AreNear r.x1 r.x2 q.x1 q.x2 s × AreNear r.y1 r.y2 q.y1 q.y2 s → InConflict (squares r) (squares q) s)
    × (InConflict (squares r) (squares q) s → AreNear r.x1 r.x2 q.x1 q.x2 s × AreNear r.y1 r.y2 q.y1 q.y2 s)
rects_conflict r q s some = (
  (λ near.
      let across = near_pair r.x1 r.x2 q.x1 q.x2 s r.wide q.wide some near.0 in
      let up = near_pair r.y1 r.y2 q.y1 q.y2 s r.tall q.tall some near.1 in
      record {
        x = across.x;
        y = up.x;
        square = squares_true q across.x up.x across.x_low across.x_high up.x_low up.x_high;
        reached = record { u = across.u; v = up.u; square = squares_true r across.u up.u across.u_low across.u_high up.u_low up.u_high; across = across.near; up = up.near };
      }),
  (λ c.
      let at = squares_inside q c.x c.y c.square in
      let from = squares_inside r c.reached.u c.reached.v c.reached.square in (
        pair_near r.x1 r.x2 q.x1 q.x2 s c.reached.u c.x from.left from.right at.left at.right c.reached.across,
        pair_near r.y1 r.y2 q.y1 q.y2 s c.reached.v c.y from.bottom from.top at.bottom at.top c.reached.up,
      )),
)

-- the number of a range that is nearest to one in the grown range
pub record Nearest (u lo hi s : ℤ) : Type 0 where
  pub x : ℤ
  pub low : lo ≤ℤ x
  pub high : x <ℤ hi
  pub near : IsNear s x u

pub nearest : (u lo hi s : ℤ) → lo <ℤ hi → pos 0 ≤ℤ s → (lo -ℤ s) ≤ℤ u → u <ℤ (hi +ℤ s) → Nearest u lo hi s
nearest u lo hi s some least from to = record {
  x = int_max lo (int_min u (hi -ℤ pos 1));
  low = omega (arith, ints, clamps);
  high = omega (arith, ints, clamps);
  near = record { above = omega (arith, ints, clamps); below = omega (arith, ints, clamps) };
}

-- a set is in conflict with a rectangle where it has a square in the rectangle grown by the spacing
pub grown_conflict : (p : ℤ → ℤ → Bool) (r : Rect) (s : ℤ) → pos 0 ≤ℤ s
    → (HasSquare p (r.x1 -ℤ s) (r.y1 -ℤ s) (r.x2 +ℤ s) (r.y2 +ℤ s) → InConflict p (squares r) s)
    × (InConflict p (squares r) s → HasSquare p (r.x1 -ℤ s) (r.y1 -ℤ s) (r.x2 +ℤ s) (r.y2 +ℤ s))
grown_conflict p r s some = (
  (λ h.
      let across = nearest h.x r.x1 r.x2 s r.wide some h.from_left h.to_right in
      let up = nearest h.y r.y1 r.y2 s r.tall some h.from_bottom h.to_top in
      record {
        x = across.x;
        y = up.x;
        square = squares_true r across.x up.x across.low across.high up.low up.high;
        reached = record { u = h.x; v = h.y; square = h.square; across = across.near; up = up.near };
      }),
  (λ c.
      let at = squares_inside r c.x c.y c.square in
      let xa : (c.x -ℤ c.reached.u) ≤ℤ s = c.reached.across.above in let xb : (c.reached.u -ℤ c.x) ≤ℤ s = c.reached.across.below in
      let ya : (c.y -ℤ c.reached.v) ≤ℤ s = c.reached.up.above in let yb : (c.reached.v -ℤ c.y) ≤ℤ s = c.reached.up.below in
      record {
        x = c.reached.u;
        y = c.reached.v;
        square = c.reached.square;
        from_left = low_end c.x c.reached.u r.x1 s at.left xa;
        to_right = high_end c.x c.reached.u r.x2 s at.right xb;
        from_bottom = low_end c.y c.reached.v r.y1 s at.bottom ya;
        to_top = high_end c.y c.reached.v r.y2 s at.top yb;
      }),
)
  where
    low_end : (x u lo s : ℤ) → lo ≤ℤ x → (x -ℤ u) ≤ℤ s → (lo -ℤ s) ≤ℤ u
    low_end x u lo s a b = omega (arith, ints)

    high_end : (x u hi s : ℤ) → x <ℤ hi → (u -ℤ x) ≤ℤ s → u <ℤ (hi +ℤ s)
    high_end x u hi s a b = omega (arith, ints)

pub rects_test : (r q : Rect) (s : ℤ) → IsSpacing s → (a b : Bool) → (IsTrue a ↔ AreNear r.x1 r.x2 q.x1 q.x2 s) → (IsTrue b ↔ AreNear r.y1 r.y2 q.y1 q.y2 s)
    → (IsTrue (a && b) ↔ InConflict (squares r) (squares q) s)
rects_test r q s is a b across up =
    let both = rects_conflict r q s is.least in
    ((λ h. both.0 (across.0 (first_so a b h), up.0 (second_so a b h))), (λ c. let near = both.1 c in and_from a b (across.1 near.0) (up.1 near.1)))

pub x1_is : (r : Rect) → IsCoordinate r.x1
x1_is r = record { least = r.left; most = le_trans r.x1 r.x2 _ (lt_le r.x1 r.x2 r.wide) r.right }

pub x2_is : (r : Rect) → IsCoordinate r.x2
x2_is r = record { least = le_trans _ r.x1 r.x2 r.left (lt_le r.x1 r.x2 r.wide); most = r.right }

y1_is : (r : Rect) → IsCoordinate r.y1
y1_is r = record { least = r.bottom; most = le_trans r.y1 r.y2 _ (lt_le r.y1 r.y2 r.tall) r.top }

y2_is : (r : Rect) → IsCoordinate r.y2
y2_is r = record { least = le_trans _ r.y1 r.y2 r.bottom (lt_le r.y1 r.y2 r.tall); most = r.top }

-- the grown rectangle's edges, as the code reckons them
pub clear_test : (p : ℤ → ℤ → Bool) (r : Rect) (s x1 y1 x2 y2 : ℤ) (b : Bool) → IsSpacing s → x1 ≡ r.x1 → y1 ≡ r.y1 → x2 ≡ r.x2 → y2 ≡ r.y2
    → (IsTrue b ↔ HasSquare p (read (read x1 -ℤ read s)) (read (read y1 -ℤ read s)) (read (read x2 +ℤ read s)) (read (read y2 +ℤ read s)))
    → (IsTrue (not b) ↔ ¬ InConflict p (squares r) s)
clear_test p r s x1 y1 x2 y2 b is e1 e2 e3 e4 test =
    let grown : IsTrue b ↔ HasSquare p (r.x1 -ℤ s) (r.y1 -ℤ s) (r.x2 +ℤ s) (r.y2 +ℤ s) =
    rw (e1, e2, e3, e4, read_x1 r, read_x2 r, read_y1 r, read_y2 r, spacing_read s is, shrunk_read r.x1 s (x1_is r) is, shrunk_read r.y1 s (y1_is r) is, grown_read r.x2 s (x2_is r) is, grown_read r.y2 s (y2_is r) is) at test in
    opposite b (grown_conflict p r s is.least) grown
  where
    opposite : {P Q : Type 0} (b : Bool) → (P → Q) × (Q → P) → (IsTrue b ↔ P) → (IsTrue (not b) ↔ ¬ Q)
    opposite true same t = ((λ h. let e : false ≡ true = h in cc), (λ none. absurd (none (same.0 (t.0 refl)))))
    opposite false same t = ((λ h q. let e : false ≡ true = t.1 (same.1 q) in cc), (λ none. refl))

-- the edges of a grown rectangle, each as the code reckons it
pub left_grown : (r : Rect) (s x e : ℤ) → IsSpacing s → x ≡ r.x1 → e ≡ read (read x -ℤ read s) → e ≡ r.x1 -ℤ s
left_grown r s x e is h k = k ∙ rw (h, read_x1 r, spacing_read s is) (shrunk_read r.x1 s (x1_is r) is)

pub bottom_grown : (r : Rect) (s y e : ℤ) → IsSpacing s → y ≡ r.y1 → e ≡ read (read y -ℤ read s) → e ≡ r.y1 -ℤ s
bottom_grown r s y e is h k = k ∙ rw (h, read_y1 r, spacing_read s is) (shrunk_read r.y1 s (y1_is r) is)

pub right_grown : (r : Rect) (s x e : ℤ) → IsSpacing s → x ≡ r.x2 → e ≡ read (read x +ℤ read s) → e ≡ r.x2 +ℤ s
right_grown r s x e is h k = k ∙ rw (h, read_x2 r, spacing_read s is) (grown_read r.x2 s (x2_is r) is)

pub top_grown : (r : Rect) (s y e : ℤ) → IsSpacing s → y ≡ r.y2 → e ≡ read (read y +ℤ read s) → e ≡ r.y2 +ℤ s
top_grown r s y e is h k = k ∙ rw (h, read_y2 r, spacing_read s is) (grown_read r.y2 s (y2_is r) is)
