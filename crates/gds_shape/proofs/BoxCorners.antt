-- A boundary of four corners covers the rectangle between two opposite ones.
use Rattle.std.proofs.Common.{◌≡◌, ◌+◌, ℤ, ◌+ℤ◌, ◌-ℤ◌, List, [], ◌∷◌, get_or, refl, arith, ap, ◌∙◌, sym, Bool, true, false, cond, not, ◌&&◌, inl, inr, eqb, ◌||◌}
use Rattle.std.specs.Prelude.{int_lt, int_le}
use Rattle.std.specs.Ordering.{int_eq}
use Rattle.std.specs.Int.{int_min, int_max}
use Rattle.std.proofs.lemmas.Int.{ints, clamps}
use Rattle.fill_base.specs.declared.place.Point.{Point}
use Rattle.fill_base.specs.Counts.{is_between}
use Rattle.fill_base.specs.Coordinates.{IsCoordinate}
use Rattle.fill_base.proofs.Signed.{read, read_is, coordinate_fits, fits_min, fits_max}
use Rattle.gds_shape.specs.Winding.{covers, IsClosed, IsPoint}
use Rattle.gds_shape.specs.Moves.{moved}
use Rattle.gds_shape.specs.Boxes.{IsBox, is_in_box}

abbrev at : ℤ → ℤ → Point
at x y = record { x = x; y = y }

-- one of the two, not both
abbrev apart : Bool → Bool → Bool
apart true b = not b
apart false b = b

between_is : (a b x : ℤ) → is_between (int_min a b) (int_max a b) x ≡ apart (int_lt x a) (int_lt x b)
between_is a b x = cases (int_lt x a) (int_lt x b) refl refl
  where
    cases : (p q : Bool) → int_lt x a ≡ p → int_lt x b ≡ q → is_between (int_min a b) (int_max a b) x ≡ apart p q
    cases true true h k = grind (arith, ints, clamps)
    cases true false h k = grind (arith, ints, clamps)
    cases false true h k = grind (arith, ints, clamps)
    cases false false h k = grind (arith, ints, clamps)

eq_self : (a : ℤ) → int_eq a a ≡ true
eq_self a = grind (arith, ints)

other : (a y : ℤ) → int_le a y ≡ not (int_lt y a)
other a y = grind (arith, ints)

none : (b : Bool) → (not b && b) ≡ false
none true = refl
none false = refl

off : (a b : Bool) → (a && (b && false)) ≡ false
off true true = refl
off true false = refl
off false b = refl

-- the upright edges of such a boundary, counted
upright_counts : (e f l r u v : Bool)
    → not (eqb (0 + cond (l && (not u && v)) 1 0 + cond (e && (l && (not v && v))) 1 0 + cond (r && (not v && u)) 1 0 + cond (f && (r && (not u && u))) 1 0)
    (0 + cond (l && (not v && u)) 1 0 + cond (f && (r && (not v && v))) 1 0 + cond (r && (not u && v)) 1 0 + cond (e && (l && (not u && u))) 1 0)) ≡ apart l r && apart u v
upright_counts e f l r u v = rw (none u, none v, off e l, off f r) (table l r u v)
  where
    table : (l r u v : Bool) → not (eqb (0 + cond (l && (not u && v)) 1 0 + 0 + cond (r && (not v && u)) 1 0 + 0) (0 + cond (l && (not v && u)) 1 0 + 0 + cond (r && (not u && v)) 1 0 + 0)) ≡ apart l r && apart u v
    table true true true true = refl
    table true true true false = refl
    table true true false true = refl
    table true true false false = refl
    table true false true true = refl
    table true false true false = refl
    table true false false true = refl
    table true false false false = refl
    table false true true true = refl
    table false true true false = refl
    table false true false true = refl
    table false true false false = refl
    table false false true true = refl
    table false false true false = refl
    table false false false true = refl
    table false false false false = refl

level_counts : (e f l r u v : Bool)
    → not (eqb (0 + cond (e && (l && (not u && u))) 1 0 + cond (r && (not u && v)) 1 0 + cond (f && (r && (not v && v))) 1 0 + cond (l && (not v && u)) 1 0)
    (0 + cond (f && (r && (not u && u))) 1 0 + cond (r && (not v && u)) 1 0 + cond (e && (l && (not v && v))) 1 0 + cond (l && (not u && v)) 1 0)) ≡ apart l r && apart u v
level_counts e f l r u v = rw (none u, none v, off e l, off f r) (table l r u v)
  where
    table : (l r u v : Bool) → not (eqb (0 + 0 + cond (r && (not u && v)) 1 0 + 0 + cond (l && (not v && u)) 1 0) (0 + 0 + cond (r && (not v && u)) 1 0 + 0 + cond (l && (not u && v)) 1 0)) ≡ apart l r && apart u v
    table true true true true = refl
    table true true true false = refl
    table true true false true = refl
    table true true false false = refl
    table true false true true = refl
    table true false true false = refl
    table true false false true = refl
    table true false false false = refl
    table false true true true = refl
    table false true true false = refl
    table false true false true = refl
    table false true false false = refl
    table false false true true = refl
    table false false true false = refl
    table false false false true = refl
    table false false false false = refl

upright_first : (p q u v x y : ℤ) → covers (at p u ∷ at p v ∷ at q v ∷ at q u ∷ at p u ∷ []) x y ≡ is_in_box (at p u) (at q v) x y
upright_first p q u v x y =
    rw (between_is p q x, between_is u v y, eq_self p, eq_self q, other u y, other v y) (upright_counts (int_eq p q) (int_eq q p) (int_lt x p) (int_lt x q) (int_lt y u) (int_lt y v))

level_first : (p q u v x y : ℤ) → covers (at p u ∷ at q u ∷ at q v ∷ at p v ∷ at p u ∷ []) x y ≡ is_in_box (at p u) (at q v) x y
level_first p q u v x y =
    rw (between_is p q x, between_is u v y, eq_self p, eq_self q, other u y, other v y) (level_counts (int_eq p q) (int_eq q p) (int_lt x p) (int_lt x q) (int_lt y u) (int_lt y v))

pub box_covers : (points : List Point) (d : Point) (x y : ℤ) → IsBox points → IsClosed points → covers points x y ≡ is_in_box (get_or points 0 d) (get_or points 2 d) x y
box_covers (a ∷ b ∷ c ∷ e ∷ f ∷ []) d x y round closed =
    let last : a ≡ f = cc in
    elim round [
      | inl up ↦ rw (sym last, point b a.x c.y (sym up.0) up.1, point e c.x a.y (sym up.2) up.3) (upright_first a.x c.x a.y c.y x y)
      | inr level ↦ rw (sym last, point b c.x a.y level.1 (sym level.0), point e a.x c.y level.3 (sym level.2)) (level_first a.x c.x a.y c.y x y)
    ]
  where
    point : (p : Point) (x y : ℤ) → p.x ≡ x → p.y ≡ y → p ≡ at x y
    point p x y h k = rw (sym h, sym k) refl
box_covers [] d x y round closed = absurd round
box_covers (a ∷ []) d x y round closed = absurd round
box_covers (a ∷ b ∷ []) d x y round closed = absurd round
box_covers (a ∷ b ∷ c ∷ []) d x y round closed = absurd round
box_covers (a ∷ b ∷ c ∷ e ∷ []) d x y round closed = absurd round
box_covers (a ∷ b ∷ c ∷ e ∷ f ∷ g ∷ points) d x y round closed = absurd round

-- the rectangle of two corners, moved
pub box_moved : (by p q : Point) (x y : ℤ) → is_in_box (moved by p) (moved by q) x y ≡ is_in_box p q (x -ℤ by.x) (y -ℤ by.y)
box_moved by p q x y =
    rw (
      between_is (p.x +ℤ by.x) (q.x +ℤ by.x) x,
      between_is (p.y +ℤ by.y) (q.y +ℤ by.y) y,
      between_is p.x q.x (x -ℤ by.x),
      between_is p.y q.y (y -ℤ by.y),
      less x p.x by.x,
      less x q.x by.x,
      less y p.y by.y,
      less y q.y by.y,
    ) refl
  where
    less : (x a d : ℤ) → int_lt x (a +ℤ d) ≡ int_lt (x -ℤ d) a
    less x a d = grind (arith, ints)

-- the edges of the rectangle of two corners, as the code reads them
corner_read : (a : ℤ) → IsCoordinate a → read a ≡ a
corner_read a is = read_is a (coordinate_fits a is.least is.most)

least_read : (a b m : ℤ) → IsCoordinate a → IsCoordinate b → m ≡ int_min (read a) (read b) → read m ≡ int_min a b
least_read a b m is_a is_b h = rw (h, corner_read a is_a, corner_read b is_b) (read_is _ (fits_min a b (coordinate_fits a is_a.least is_a.most) (coordinate_fits b is_b.least is_b.most)))

most_read : (a b m : ℤ) → IsCoordinate a → IsCoordinate b → m ≡ int_max (read a) (read b) → read m ≡ int_max a b
most_read a b m is_a is_b h = rw (h, corner_read a is_a, corner_read b is_b) (read_is _ (fits_max a b (coordinate_fits a is_a.least is_a.most) (coordinate_fits b is_b.least is_b.most)))

pub box_none : (p q : Point) (bottom top : ℤ) → IsPoint p → IsPoint q → bottom ≡ int_min (read p.y) (read q.y) → top ≡ int_max (read p.y) (read q.y) → int_le (read top) (read bottom) ≡ true
    → (a : Bool) (x y : ℤ) → a ≡ (a || is_in_box p q x y)
box_none p q bottom top is_p is_q b t thin a x y =
    rw (empty (int_min p.y q.y) (int_max p.y q.y) y (rw (least_read p.y q.y bottom is_p.y is_q.y b, most_read p.y q.y top is_p.y is_q.y t) at thin)) (nothing a (is_between (int_min p.x q.x) (int_max p.x q.x) x))
  where
    empty : (a b y : ℤ) → int_le b a ≡ true → is_between a b y ≡ false
    empty a b y h = grind (arith, ints)

    nothing : (a b : Bool) → a ≡ (a || (b && false))
    nothing true b = refl
    nothing false true = refl
    nothing false false = refl

pub box_put : (p q : Point) (left right bottom top : ℤ) → IsPoint p → IsPoint q → left ≡ int_min (read p.x) (read q.x) → right ≡ int_max (read p.x) (read q.x)
    → bottom ≡ int_min (read p.y) (read q.y) → top ≡ int_max (read p.y) (read q.y) → (old : Bool) (x y : ℤ)
    → (old || ((is_between (read left) (read right) x && is_between (read bottom) (read top) y) && true)) ≡ (old || is_in_box p q x y)
box_put p q left right bottom top is_p is_q l r b t old x y =
    rw (least_read p.x q.x left is_p.x is_q.x l, most_read p.x q.x right is_p.x is_q.x r, least_read p.y q.y bottom is_p.y is_q.y b, most_read p.y q.y top is_p.y is_q.y t)
    (ap (λ c. old || c) (whole (is_between (int_min p.x q.x) (int_max p.x q.x) x && is_between (int_min p.y q.y) (int_max p.y q.y) y)))
  where
    whole : (c : Bool) → (c && true) ≡ c
    whole true = refl
    whole false = refl

pub box_carried : (by : Point) (points : List Point) (d from to : Point) (x y : ℤ) → IsBox points → IsClosed points → from ≡ moved by (get_or points 0 d) → to ≡ moved by (get_or points 2 d)
    → is_in_box from to x y ≡ covers points (x -ℤ by.x) (y -ℤ by.y)
box_carried by points d from to x y box closed f t =
    rw (f, t) (box_moved by (get_or points 0 d) (get_or points 2 d) x y ∙ sym (box_covers points d (x -ℤ by.x) (y -ℤ by.y) box closed))
