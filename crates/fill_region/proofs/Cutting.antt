-- What of a rectangle, and of a list of them, lies on one side of a line.
use Rattle.std.proofs.Common.{◌≡◌, ℕ, ◌+◌, ◌<◌, ℤ, ◌≤ℤ◌, Bool, true, false, ◌&&◌, ◌||◌, List, ◌++◌, ◌∷◌, [], length, take, get_or, refl, arith, ◌∙◌, sym}
use Rattle.std.specs.Prelude.{int_lt, not}
use Rattle.std.specs.Int.{int_max, int_min}
use Rattle.std.proofs.lemmas.Int.{ints, clamps}
use Rattle.fill_base.specs.declared.rect.Rect.{Rect}
use Rattle.fill_base.specs.Counts.{is_between}
use Rattle.fill_base.specs.Squares.{squares}
use Rattle.fill_bands.specs.Squares.{covered}
use Rattle.fill_region.specs.Steps.{before, behind}
use Rattle.fill_region.specs.declared.lines.Line.TheVariants.{Upright, Level}
use Rattle.fill_region.proofs.Members.{covered_push, covered_more}

low : (a b c x : ℤ) → is_between a (int_min b c) x ≡ (is_between a b x && int_lt x c)
low a b c x = grind (arith, ints, clamps)

high : (a b c x : ℤ) → is_between (int_max a c) b x ≡ (is_between a b x && not (int_lt x c))
high a b c x = grind (arith, ints, clamps)

swap : (a b c : Bool) → ((a && c) && b) ≡ ((a && b) && c)
swap true true c = and_true c
  where
    and_true : (b : Bool) → (b && true) ≡ b
    and_true true = refl
    and_true false = refl
swap true false c = and_false c
  where
    and_false : (b : Bool) → (b && false) ≡ false
    and_false true = refl
    and_false false = refl
swap false b c = refl

assoc : (a b c : Bool) → (a && (b && c)) ≡ ((a && b) && c)
assoc true b c = refl
assoc false b c = refl

pub left_part : (s r : Rect) (at x y : ℤ) → r.x1 ≡ s.x1 → r.x2 ≡ int_min s.x2 at → r.y1 ≡ s.y1 → r.y2 ≡ s.y2 → squares r x y ≡ before (Upright at) (squares s) x y
left_part s r at x y a b c d = rw (a, b, c, d, low s.x1 s.x2 at x) (swap (is_between s.x1 s.x2 x) (is_between s.y1 s.y2 y) (int_lt x at))

pub right_part : (s r : Rect) (at x y : ℤ) → r.x1 ≡ int_max s.x1 at → r.x2 ≡ s.x2 → r.y1 ≡ s.y1 → r.y2 ≡ s.y2 → squares r x y ≡ behind (Upright at) (squares s) x y
right_part s r at x y a b c d = rw (a, b, c, d, high s.x1 s.x2 at x) (swap (is_between s.x1 s.x2 x) (is_between s.y1 s.y2 y) (not (int_lt x at)))

pub lower_part : (s r : Rect) (at x y : ℤ) → r.x1 ≡ s.x1 → r.x2 ≡ s.x2 → r.y1 ≡ s.y1 → r.y2 ≡ int_min s.y2 at → squares r x y ≡ before (Level at) (squares s) x y
lower_part s r at x y a b c d = rw (a, b, c, d, low s.y1 s.y2 at y) (assoc (is_between s.x1 s.x2 x) (is_between s.y1 s.y2 y) (int_lt y at))

pub upper_part : (s r : Rect) (at x y : ℤ) → r.x1 ≡ s.x1 → r.x2 ≡ s.x2 → r.y1 ≡ int_max s.y1 at → r.y2 ≡ s.y2 → squares r x y ≡ behind (Level at) (squares s) x y
upper_part s r at x y a b c d = rw (a, b, c, d, high s.y1 s.y2 at y) (assoc (is_between s.x1 s.x2 x) (is_between s.y1 s.y2 y) (not (int_lt y at)))

none_low : (a b c x : ℤ) → c ≤ℤ a → (is_between a b x && int_lt x c) ≡ false
none_low a b c x le = grind (arith, ints)

none_high : (a b c x : ℤ) → b ≤ℤ c → (is_between a b x && not (int_lt x c)) ≡ false
none_high a b c x le = grind (arith, ints)

and_false : (b : Bool) → (b && false) ≡ false
and_false true = refl
and_false false = refl

pub none_left : (s : Rect) (at x y : ℤ) → at ≤ℤ s.x1 → before (Upright at) (squares s) x y ≡ false
none_left s at x y le = sym (swap (is_between s.x1 s.x2 x) (is_between s.y1 s.y2 y) (int_lt x at)) ∙ rw (none_low s.x1 s.x2 at x le) refl

pub none_right : (s : Rect) (at x y : ℤ) → s.x2 ≤ℤ at → behind (Upright at) (squares s) x y ≡ false
none_right s at x y le = sym (swap (is_between s.x1 s.x2 x) (is_between s.y1 s.y2 y) (not (int_lt x at))) ∙ rw (none_high s.x1 s.x2 at x le) refl

pub none_below : (s : Rect) (at x y : ℤ) → at ≤ℤ s.y1 → before (Level at) (squares s) x y ≡ false
none_below s at x y le = sym (assoc (is_between s.x1 s.x2 x) (is_between s.y1 s.y2 y) (int_lt y at)) ∙ rw (none_low s.y1 s.y2 at y le) (and_false (is_between s.x1 s.x2 x))

pub none_above : (s : Rect) (at x y : ℤ) → s.y2 ≤ℤ at → behind (Level at) (squares s) x y ≡ false
none_above s at x y le = sym (assoc (is_between s.x1 s.x2 x) (is_between s.y1 s.y2 y) (not (int_lt y at))) ∙ rw (none_high s.y1 s.y2 at y le) (and_false (is_between s.x1 s.x2 x))

-- ---- lists

either_part : (a b c : Bool) → ((a || b) && c) ≡ ((a && c) || (b && c))
either_part true b true = refl
either_part true true false = refl
either_part true false false = refl
either_part false b c = refl

or_false : (b : Bool) → (b || false) ≡ b
or_false true = refl
or_false false = refl

-- one rectangle more, of which something or nothing lies in the half
pub one_part : (q : ℤ → ℤ → Bool) (rects parts : List Rect) (k : ℕ) (d part : Rect) (x y : ℤ) → k < length rects → d ≡ get_or rects k d → squares part x y ≡ (squares d x y && q x y)
    → covered parts x y ≡ (covered (take k rects) x y && q x y) → covered (parts ++ part ∷ []) x y ≡ (covered (take (k + 1) rects) x y && q x y)
one_part q rects parts k d part x y lt is has so_far = covered_push parts part x y ∙ rw (so_far, has, covered_more rects k d x y lt is) (sym (either_part (covered (take k rects) x y) (squares d x y) (q x y)))

pub no_part : (q : ℤ → ℤ → Bool) (rects parts : List Rect) (k : ℕ) (d : Rect) (x y : ℤ) → k < length rects → d ≡ get_or rects k d → (squares d x y && q x y) ≡ false
    → covered parts x y ≡ (covered (take k rects) x y && q x y) → covered parts x y ≡ (covered (take (k + 1) rects) x y && q x y)
no_part q rects parts k d x y lt is none so_far = so_far ∙ rw (covered_more rects k d x y lt is) (sym (either_part (covered (take k rects) x y) (squares d x y) (q x y) ∙ rw none (or_false (covered (take k rects) x y && q x y))))
