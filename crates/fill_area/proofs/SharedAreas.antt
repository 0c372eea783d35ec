-- What rectangles share, and the areas of sets that share no square.
use Rattle.std.proofs.Common.{◌≡◌, ℕ, zero, suc, ◌+◌, ◌*◌, ◌^◌, ◌≤◌, ◌<◌, refl, sym, subst, ap, ◌∙◌, ℤ, pos, ◌+ℤ◌, ◌-ℤ◌, ◌≤ℤ◌, ◌<ℤ◌, arith, Bool, true, false, ◌&&◌, ◌||◌, cond, List, [], ◌∷◌, length, map, get_or, take, w64, FitsSigned}
use Rattle.std.proofs.lemmas.Bool.{and_from, and_parts}
use Rattle.std.proofs.lemmas.Int.{ints, clamps}
use Rattle.fill_base.specs.declared.rect.Rect.{Rect}
use Rattle.fill_base.specs.Coordinates.{lowest, highest}
use Rattle.fill_base.specs.Counts.{is_between, span_len, count_between}
use Rattle.fill_base.specs.Sides.{sides_of}
use Rattle.fill_base.specs.Squares.{area_of, area_between, squares}
use Rattle.fill_base.proofs.Between.{is_between_true, is_between_below, is_between_above, is_between_bounds}
use Rattle.fill_base.proofs.Counting.{count_between_same, sum_between_same, sum_between_add}
use Rattle.fill_base.proofs.Covering.{area_split_across, area_split_up, area_few}
use Rattle.fill_base.proofs.Signed.{read, read_is, pos_fits, le_trans, lt_le, side_short, product_small}
use Rattle.fill_region.specs.Runs.{AreApart, has}
use Rattle.fill_region.specs.Squares.{covered}
use Rattle.fill_region.proofs.Members.{covered_more}
use Rattle.fill_area.proofs.Measuring.{no_area}

pub and_no : (b : Bool) → b && false ≡ false
and_no true = refl
and_no false = refl

pub and_yes : (b : Bool) → b && true ≡ b
and_yes true = refl
and_yes false = refl

-- sets with the same squares in the part have the same area there
pub same_within : (p q : ℤ → ℤ → Bool) (part : Rect) → ((x y : ℤ) → squares part x y ≡ true → p x y ≡ q x y) → area_of p part ≡ area_of q part
same_within p q part same =
    sum_between_same (λ y. count_between (λ x. p x y) part.x1 part.x2) (λ y. count_between (λ x. q x y) part.x1 part.x2) part.y1 part.y2 (lt_le _ _ part.tall)
    (λ y low high. count_between_same (λ x. p x y) (λ x. q x y) part.x1 part.x2 (lt_le _ _ part.wide)
    (λ x left right. same x y (rw (is_between_true part.x1 part.x2 x left right, is_between_true part.y1 part.y2 y low high) refl)))

-- no area is above 2^62
pub area_small : (p : ℤ → ℤ → Bool) (part : Rect) → area_of p part ≤ 2 ^ 62
area_small p part =
    let cuts : area_of p part ≤ span_len part.y1 part.y2 * span_len part.x1 part.x2 =
    area_few p part.x1 part.y1 part.x2 part.y2 in
    let product = product_small (span_len part.y1 part.y2) (span_len part.x1 part.x2) (short part.y1 part.y2 part.bottom part.tall part.top) (short part.x1 part.x2 part.left part.wide part.right) in
    omega (arith, cuts, product)
  where
    short : (a b : ℤ) → lowest ≤ℤ a → a <ℤ b → b ≤ℤ highest → span_len a b ≤ 2 ^ 31
    short a b low lt high = side_short a b low (lt_le a b lt) high

-- two areas, as the code adds them
pub summed : (w u v : ℕ) (m n : ℤ) → w ≡ u + v → w ≤ 2 ^ 62 → m ≡ pos u → n ≡ pos v → FitsSigned w64 (read m +ℤ read n) × (read (read m +ℤ read n) ≡ pos w)
summed w u v m n is small m_is n_is =
    let u_read : read m ≡ pos u = rw m_is (read_is (pos u) (pos_fits u (omega (arith, is, small)))) in
    let v_read : read n ≡ pos v = rw n_is (read_is (pos v) (pos_fits v (omega (arith, is, small)))) in
    let fits : FitsSigned w64 (pos u +ℤ pos v) = pos_fits (u + v) (omega (arith, is, small)) in
    let whole : pos u +ℤ pos v ≡ pos w = omega (arith, ints, clamps, is) in
    rw (u_read, v_read) (fits, read_is (pos u +ℤ pos v) fits ∙ whole)

no_squares : (p : ℤ → ℤ → Bool) (left bottom right top : ℤ) → left ≤ℤ right → bottom ≤ℤ top
    → ((x y : ℤ) → left ≤ℤ x → x <ℤ right → bottom ≤ℤ y → y <ℤ top → p x y ≡ false) → area_between p left bottom right top ≡ 0
no_squares p left bottom right top wide tall none =
    sum_between_same (λ y. count_between (λ x. p x y) left right) (λ y. count_between (λ x. false) left right) bottom top tall
    (λ y low high. count_between_same (λ x. p x y) (λ x. false) left right wide (λ x from to. none x y from to low high))
    ∙ no_area left bottom right top wide tall

pub record LiesIn (w part : Rect) : Type 0 where
  pub left : w.x1 ≤ℤ part.x1
  pub right : part.x2 ≤ℤ w.x2
  pub bottom : w.y1 ≤ℤ part.y1
  pub top : part.y2 ≤ℤ w.y2

-- a set that has no square outside a rectangle within another has its own area there
pub in_part : (p : ℤ → ℤ → Bool) (part w : Rect) → LiesIn w part → ((x y : ℤ) → squares part x y ≡ false → p x y ≡ false) → area_of p part ≡ area_of p w
in_part p part w inside outside =
    let wide = lt_le _ _ part.wide in let tall = lt_le _ _ part.tall in
    let across = le_trans w.x1 part.x1 w.x2 inside.left (le_trans part.x1 part.x2 w.x2 wide inside.right) in
    let below = area_split_up p w.x1 w.x2 w.y1 part.y1 w.y2 inside.bottom (le_trans part.y1 part.y2 w.y2 tall inside.top) in
    let above = area_split_up p w.x1 w.x2 part.y1 part.y2 w.y2 tall inside.top in
    let before = area_split_across p w.x1 part.x1 w.x2 part.y1 part.y2 inside.left (le_trans part.x1 part.x2 w.x2 wide inside.right) in
    let after = area_split_across p part.x1 part.x2 w.x2 part.y1 part.y2 wide inside.right in
    let none_below = no_squares p w.x1 w.y1 w.x2 part.y1 across inside.bottom (λ x y l r b t. outside x y (rw (is_between_below part.y1 part.y2 y t) (and_no _))) in
    let none_above = no_squares p w.x1 part.y2 w.x2 w.y2 across inside.top (λ x y l r b t. outside x y (rw (is_between_above part.y1 part.y2 y b) (and_no _))) in
    let none_before = no_squares p w.x1 part.y1 part.x1 part.y2 inside.left tall (λ x y l r b t. outside x y (rw (is_between_below part.x1 part.x2 x r) refl)) in
    let none_after = no_squares p part.x2 part.y1 w.x2 part.y2 inside.right tall (λ x y l r b t. outside x y (rw (is_between_above part.x1 part.x2 x l) refl)) in
    omega (arith, below, above, before, after, none_below, none_above, none_before, none_after)

-- what a rectangle has in a window lies in the window
pub lies_in : (r w part : Rect) → ((x y : ℤ) → squares part x y ≡ squares r x y && squares w x y) → LiesIn w part
lies_in r w part each =
    let low = corner part.x1 part.y1 (first _ _ part.wide) part.wide (first _ _ part.tall) part.tall in
    let across = last _ _ part.wide in let up = last _ _ part.tall in
    let high = corner (part.x2 -ℤ pos 1) (part.y2 -ℤ pos 1) across.0 across.1 up.0 up.1 in
    record {
      left = (is_between_bounds w.x1 w.x2 part.x1 low.0).0;
      right = reached _ _ (is_between_bounds w.x1 w.x2 (part.x2 -ℤ pos 1) high.0).1;
      bottom = (is_between_bounds w.y1 w.y2 part.y1 low.1).0;
      top = reached _ _ (is_between_bounds w.y1 w.y2 (part.y2 -ℤ pos 1) high.1).1;
    }
  where
    corner : (x y : ℤ) → part.x1 ≤ℤ x → x <ℤ part.x2 → part.y1 ≤ℤ y → y <ℤ part.y2 → (is_between w.x1 w.x2 x ≡ true) × (is_between w.y1 w.y2 y ≡ true)
    corner x y left right bottom top =
        and_parts _ _ (and_parts (squares r x y) (squares w x y) (sym (each x y) ∙ and_from _ _ (is_between_true part.x1 part.x2 x left right) (is_between_true part.y1 part.y2 y bottom top))).1

    first : (a b : ℤ) → a <ℤ b → a ≤ℤ a
    first a b h = omega (arith, ints, clamps)

    last : (a b : ℤ) → a <ℤ b → (a ≤ℤ (b -ℤ pos 1)) × ((b -ℤ pos 1) <ℤ b)
    last a b h = (omega (arith, ints, clamps), omega (arith, ints, clamps))

    reached : (a b : ℤ) → (a -ℤ pos 1) <ℤ b → a ≤ℤ b
    reached a b h = omega (arith, ints, clamps)

-- the area of what a rectangle has in a window
pub shared_part : (r w part : Rect) → ((x y : ℤ) → squares part x y ≡ squares r x y && squares w x y) → area_of (squares part) part ≡ area_of (squares r) w
shared_part r w part each = in_part (squares part) part w (lies_in r w part each) (λ x y none. none)
    ∙ sym (same_within (squares r) (squares part) w (λ x y here. sym (each x y ∙ rw here (and_yes (squares r x y)))))

-- a set without a square in the window
pub none_within : (p : ℤ → ℤ → Bool) (w : Rect) → ((x y : ℤ) → p x y && squares w x y ≡ false) → area_of p w ≡ 0
none_within p w none = no_squares p w.x1 w.y1 w.x2 w.y2 (lt_le _ _ w.wide) (lt_le _ _ w.tall)
    (λ x y left right bottom top. sym (and_yes (p x y)) ∙ (ap (λ b. p x y && b) (sym (here x y left right bottom top)) ∙ none x y))
  where
    here : (x y : ℤ) → w.x1 ≤ℤ x → x <ℤ w.x2 → w.y1 ≤ℤ y → y <ℤ w.y2 → squares w x y ≡ true
    here x y left right bottom top = rw (is_between_true w.x1 w.x2 x left right, is_between_true w.y1 w.y2 y bottom top) refl

one_of : (a b : Bool) → a && b ≡ false → cond (a || b) 1 0 ≡ cond a 1 0 + cond b 1 0
one_of true true none = absurd (cc)
one_of true false none = refl
one_of false true none = refl
one_of false false none = refl

-- the areas of sets that share no square add up
pub apart_sum : (p q : ℤ → ℤ → Bool) (part : Rect) → ((x y : ℤ) → p x y && q x y ≡ false) → area_of (λ x y. p x y || q x y) part ≡ area_of p part + area_of q part
apart_sum p q part apart =
    sum_between_add (λ y. count_between (λ x. p x y) part.x1 part.x2) (λ y. count_between (λ x. q x y) part.x1 part.x2) (λ y. count_between (λ x. p x y || q x y) part.x1 part.x2) part.y1 part.y2
    (λ y. sum_between_add (λ x. cond (p x y) 1 0) (λ x. cond (q x y) 1 0) (λ x. cond (p x y || q x y) 1 0) part.x1 part.x2 (λ x. one_of (p x y) (q x y) (apart x y)))

-- no rectangle has no area
pub of_none : (part : Rect) → 0 ≡ area_of (covered []) part
of_none part = sym (no_area part.x1 part.y1 part.x2 part.y2 (lt_le _ _ part.wide) (lt_le _ _ part.tall))

-- a rectangle more, apart from those before it
pub apart_more : (rects : List Rect) (k : ℕ) (r part : Rect) (m n : ℤ) → k < length rects → r ≡ get_or rects k r → ((x y : ℤ) → covered (take k rects) x y && squares r x y ≡ false)
    → m ≡ pos (area_of (covered (take k rects)) part) → n ≡ pos (area_of (squares r) part)
    → FitsSigned w64 (m +ℤ read n) × (read (m +ℤ read n) ≡ pos (area_of (covered (take (k + 1) rects)) part))
apart_more rects k r part m n lt item apart m_is n_is =
    let m_read : read m ≡ m = rw m_is (read_is (pos (area_of (covered (take k rects)) part)) (pos_fits (area_of (covered (take k rects)) part) (below _ (area_small (covered (take k rects)) part)))) in
    subst (λ z. FitsSigned w64 (z +ℤ read n) × (read (z +ℤ read n) ≡ pos (area_of (covered (take (k + 1) rects)) part))) m_read
    (summed (area_of (covered (take (k + 1) rects)) part) (area_of (covered (take k rects)) part) (area_of (squares r) part) m n
    (same_within (covered (take (k + 1) rects)) (λ x y. covered (take k rects) x y || squares r x y) part (λ x y here. more x y) ∙ apart_sum (covered (take k rects)) (squares r) part apart)
    (area_small (covered (take (k + 1) rects)) part) m_is n_is)
  where
    below : (n : ℕ) → n ≤ 2 ^ 62 → n < 2 ^ 63
    below n le = omega (arith, le)

    more : (x y : ℤ) → covered (take (k + 1) rects) x y ≡ (covered (take k rects) x y || squares r x y)
    more x y = covered_more rects k r x y lt item

-- ---- the runs of a region

-- a run shares no square with those before it
pub apart_at : (rects : List Rect) (k : ℕ) (r : Rect) → AreApart (map sides_of rects) → k < length rects → r ≡ get_or rects k r → (x y : ℤ) → covered (take k rects) x y && squares r x y ≡ false
apart_at [] k r apart lt item x y = absurd (omega (arith, lt))
apart_at (first ∷ rest) zero r apart lt item x y = refl
apart_at (first ∷ rest) (suc k) r apart lt item x y =
    neither (squares first x y) (covered (take k rest) x y) (squares r x y)
    (not_both (squares first x y) (squares r x y) (λ is. ap (λ s. has s x y) (sym placed) ∙ apart.0 k (sides_of r) (omega (arith, lt, long rest)) x y is))
    (apart_at rest k r apart.1 (omega (arith, lt)) item x y)
  where
    long : (rs : List Rect) → length (map sides_of rs) ≡ length rs
    long [] = refl
    long (s ∷ rs) = ap suc (long rs)

    at_map : (rs : List Rect) (j : ℕ) → get_or (map sides_of rs) j (sides_of r) ≡ sides_of (get_or rs j r)
    at_map [] j = refl
    at_map (s ∷ rs) zero = refl
    at_map (s ∷ rs) (suc j) = at_map rs j

    placed : get_or (map sides_of rest) k (sides_of r) ≡ sides_of r
    placed = at_map rest k ∙ ap sides_of (sym item)

    not_both : (a b : Bool) → (a ≡ true → b ≡ false) → a && b ≡ false
    not_both true b h = h refl
    not_both false b h = refl

    neither : (a b c : Bool) → a && c ≡ false → b && c ≡ false → (a || b) && c ≡ false
    neither true b c one other = one
    neither false b c one other = other
