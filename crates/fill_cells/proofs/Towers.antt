-- Towers side by side, and a rectangle that is put to them.
use Rattle.std.proofs.Common.{◌≡◌, ℕ, suc, ◌+◌, ◌-◌, ◌≤◌, ◌<◌, ℤ, pos, ◌+ℤ◌, ◌≤ℤ◌, ◌<ℤ◌, List, [], ◌∷◌, ◌++◌, length, get_or, take, drop, set, refl, arith, ap, ◌∙◌, sym, subst, Bool, true, false, ◌||◌, ◌&&◌, All, w64, FitsSigned}
use Rattle.std.specs.Prelude.{int_lt, int_le}
use Rattle.fill_area.proofs.Begun.{by_lt}
use Rattle.fill_base.proofs.Between.{is_between_bounds}
use Rattle.std.proofs.lemmas.Bool.{and_parts}
use Rattle.fill_base.proofs.Signed.{read, read_is, is_lt, not_lt, not_le}
use Rattle.fill_cells.proofs.Lists.{edge_is}
use Rattle.std.specs.List.{insert}
use Rattle.std.proofs.lemmas.Int.{ints, clamps}
use Rattle.std.proofs.lemmas.List.{take-append-drop, drop-drop, drop_more, take-set-le, drop-set, append_assoc, get_or-append-add, length-append, get_or_append_left, get_or-append_right, get_or_default, get_or-drop, length-take-le, length-drop, set-append_right}
use Rattle.std.proofs.lemmas.List.Edits.{insert-append_right}
use Rattle.std.proofs.lemmas.List.Elements.{All-append, All-cons}
use Rattle.std.proofs.lemmas.List.Folds.{list_any-append}
use Rattle.std.proofs.lemmas.List.Kept.{AllPairs-cons}
use Rattle.std.proofs.Math.Seq.{split_at, get_or-append_seam, drop-append-add}
use Rattle.fill_base.specs.declared.rect.Rect.{Rect}
use Rattle.fill_base.specs.Counts.{is_between}
use Rattle.fill_base.specs.Squares.{squares, area_of}
use Rattle.fill_region.specs.Squares.{covered}
use Rattle.fill_cells.specs.steps.Skyline.{AreApart, GoesOn, IsColumns, IsNoMore, IsOpen, IsPassed, IsSettled, IsSkyline, without}
use Rattle.fill_area.proofs.SharedAreas.{apart_more, same_within}
use Rattle.fill_cells.proofs.SkylineAreas.{right_of, tower_apart}

abbrev Left : Rect → Rect → Type 0
Left a b = a.x2 ≤ℤ b.x1

le_trans : (a b c : ℤ) → a ≤ℤ b → b ≤ℤ c → a ≤ℤ c
le_trans a b c h k = omega (arith, ints, clamps)

-- towers left of a column and towers right of it
joined : (A C : List Rect) (m : ℤ) → AreApart A → AreApart C → All (λ q. q.x2 ≤ℤ m) A → All (λ q. m ≤ℤ q.x1) C → AreApart (A ++ C)
joined [] C m first second left right = second
joined (a ∷ A) C m first second left right =
    AllPairs-cons Left a (A ++ C) (All-append (Left a) A C (λ k d lt. first 0 (suc k) d (omega arith) (omega (arith, lt))) (λ k d lt. le_trans a.x2 m (get_or C k d).x1 (left 0 a (omega arith)) (right k d lt)))
    (joined A C m (λ i j d lt within. first (suc i) (suc j) d (omega (arith, lt)) (omega (arith, within))) second (λ k d lt. left (suc k) d (omega (arith, lt))) right)

-- the towers before the one that a rectangle has come to, it, and those after it
pub record Around (A C : List Rect) (t r : Rect) : Type 0 where
  pub before : AreApart A
  pub after : AreApart C
  pub left : All (λ q. q.x2 ≤ℤ t.x1) A
  pub right : All (λ q. t.x2 ≤ℤ q.x1) C
  pub begun_before : All (λ q. q.y1 ≤ℤ r.y1) A
  pub begun : t.y1 ≤ℤ r.y1
  pub begun_after : All (λ q. q.y1 ≤ℤ r.y1) C
  pub ended : All (λ q. q.x2 ≤ℤ r.x1) A
  pub past : r.x1 <ℤ t.x2

pub around : (A C : List Rect) (t r : Rect) → IsOpen (A ++ t ∷ C) (length A) r → Around A C t r
around A C t r is = record {
  before = λ i j d low within. rw (← in_front i d (omega (arith, low, within)), ← in_front j d within) (is.skyline.apart i j d low (inside j within));
  after = λ i j d low within. rw (← behind i d, ← behind j d) (is.skyline.apart (length A + suc i) (length A + suc j) d (omega (arith, low)) (later j within));
  left = λ k d within. subst (λ q. (get_or A k d).x2 ≤ℤ q.x1) (here d) (subst (λ q. q.x2 ≤ℤ (get_or (A ++ t ∷ C) (length A) d).x1) (in_front k d within) (is.skyline.apart k (length A) d within there));
  right = λ k d within. subst (λ q. q.x2 ≤ℤ (get_or C k d).x1) (here d) (subst (λ q. (get_or (A ++ t ∷ C) (length A) d).x2 ≤ℤ q.x1) (behind k d) (is.skyline.apart (length A) (length A + suc k) d (omega arith) (later k within)));
  begun_before = λ k d within. rw (← in_front k d within) (is.skyline.begun k d (inside k within));
  begun = subst (λ q. q.y1 ≤ℤ r.y1) (here r) (is.skyline.begun (length A) r there);
  begun_after = λ k d within. rw (← behind k d) (is.skyline.begun (length A + suc k) d (later k within));
  ended = λ k d within. rw (← in_front k d within) (is.parted.0 k d (omega arith) within);
  past = subst (λ q. r.x1 <ℤ q.x2) (here r) (is.parted.1 (length A) r (omega arith) there);
}
  where
    count : length (A ++ t ∷ C) ≡ length A + suc (length C)
    count = length-append A (t ∷ C)

    inside : (k : ℕ) → k < length A → k < length (A ++ t ∷ C)
    inside k within = omega (arith, within, count)

    there : length A < length (A ++ t ∷ C)
    there = omega (arith, count)

    later : (k : ℕ) → k < length C → length A + suc k < length (A ++ t ∷ C)
    later k within = omega (arith, within, count)

    in_front : (k : ℕ) (d : Rect) → k < length A → get_or (A ++ t ∷ C) k d ≡ get_or A k d
    in_front k d within = get_or_append_left A (t ∷ C) d k within

    here : (d : Rect) → get_or (A ++ t ∷ C) (length A) d ≡ t
    here d = get_or-append_seam A t C d

    behind : (k : ℕ) (d : Rect) → get_or (A ++ t ∷ C) (length A + suc k) d ≡ get_or C k d
    behind k d = get_or-append-add A (t ∷ C) (suc k) d

-- towers from a column on, and towers up to a column, which begin at a cut or below
pub record Stands (cut m : ℤ) (D : List Rect) : Type 0 where
  pub apart : AreApart D
  pub from : All (λ q. m ≤ℤ q.x1) D
  pub begun : All (λ q. q.y1 ≤ℤ cut) D

pub record Ends (cut m : ℤ) (A : List Rect) : Type 0 where
  pub apart : AreApart A
  pub upto : All (λ q. q.x2 ≤ℤ m) A
  pub begun : All (λ q. q.y1 ≤ℤ cut) A

le_lt_le : (a b c d : ℤ) → a ≤ℤ b → b <ℤ c → c ≤ℤ d → a ≤ℤ d
le_lt_le a b c d h k l = omega (arith, ints, clamps)

le_lt : (a b c : ℤ) → a ≤ℤ b → b <ℤ c → a <ℤ c
le_lt a b c h k = omega (arith, ints, clamps)

one_more : (cut m : ℤ) (q : Rect) (D : List Rect) → m ≤ℤ q.x1 → q.y1 ≤ℤ cut → Stands cut q.x2 D → Stands cut m (q ∷ D)
one_more cut m q D from begun rest = record {
  apart = AllPairs-cons Left q D rest.from rest.apart;
  from = All-cons (λ p. m ≤ℤ p.x1) q D from (λ k d lt. le_lt_le m q.x1 q.x2 (get_or D k d).x1 from q.wide (rest.from k d lt));
  begun = All-cons (λ p. p.y1 ≤ℤ cut) q D begun rest.begun;
}

standing : (cut m : ℤ) (A D : List Rect) → Ends cut m A → Stands cut m D → IsSkyline cut (A ++ D)
standing cut m A D ends stands = record {
  apart = joined A D m ends.apart stands.apart ends.upto stands.from;
  begun = All-append (λ q. q.y1 ≤ℤ cut) A D ends.begun stands.begun;
}

beyond : (cut m n : ℤ) (D : List Rect) → n ≤ℤ m → Stands cut m D → All (λ q. n <ℤ q.x2) D
beyond cut m n D le stands k d lt = le_lt n (get_or D k d).x1 (get_or D k d).x2 (le_trans n m (get_or D k d).x1 le (stands.from k d lt)) (get_or D k d).wide

opened : (X Y new : List Rect) (n : ℕ) (r : Rect) → new ≡ X ++ Y → n ≡ length X → IsSkyline r.y1 new → All (λ q. q.x2 ≤ℤ r.x1) X → All (λ q. r.x1 <ℤ q.x2) Y → IsOpen new n r
opened X Y new n r new_is n_is skyline before after = record {
  skyline = skyline;
  within = rw (new_is, n_is, length-append X Y) (omega arith);
  parted = rw (new_is, n_is) (
    (λ k d low lt. rw (get_or_append_left X Y d k lt) (before k d lt)),
    (λ k d from lt. rw (get_or-append_right X Y (length X) k d refl from) (after (k - length X) d (inside k from (rw (length-append X Y) at lt)))),
  );
}
  where
    inside : (k : ℕ) → length X ≤ k → k < length X + length Y → k - length X < length Y
    inside k from lt = omega (arith, from, lt)

columns_squares : (l r : Rect) (from to x y : ℤ) → IsColumns l r from to → squares l x y ≡ (is_between from to x && is_between r.y1 r.y2 y)
columns_squares l r from to x y is = rw (is.0, is.1, is.2, is.3) refl

both_parts : (A D : List Rect) (x y : ℤ) → covered (A ++ D) x y ≡ (covered A x y || covered D x y)
both_parts A D x y = list_any-append (λ q. squares q x y) A D

weaker : (cut m n : ℤ) (D : List Rect) → n ≤ℤ m → Stands cut m D → Stands cut n D
weaker cut m n D le stands = record { apart = stands.apart; from = λ k d lt. le_trans n m (get_or D k d).x1 le (stands.from k d lt); begun = stands.begun }

self : (z : ℤ) → z ≤ℤ z
self z = omega (arith, ints, clamps)

pub lt_le : (a b : ℤ) → a <ℤ b → a ≤ℤ b
lt_le a b h = omega (arith, ints, clamps)

same_le : (a b : ℤ) → a ≡ b → a ≤ℤ b
same_le a b is = rw is (self b)

rest_of : (A C : List Rect) (t r : Rect) → Around A C t r → Stands r.y1 t.x2 C
rest_of A C t r h = record { apart = h.after; from = h.right; begun = h.begun_after }

front_of : (A C : List Rect) (t r : Rect) → Around A C t r → Ends r.y1 r.x1 A
front_of A C t r h = record { apart = h.before; upto = h.ended; begun = h.begun_before }

front_at : (A C : List Rect) (t r : Rect) → Around A C t r → Ends r.y1 t.x1 A
front_at A C t r h = record { apart = h.before; upto = h.left; begun = h.begun_before }

last_in : (A : List Rect) (q : Rect) (m : ℤ) → All (λ p. p.x2 ≤ℤ m) A → q.x2 ≤ℤ m → All (λ p. p.x2 ≤ℤ m) (A ++ q ∷ [])
last_in A q m upto last = All-append (λ p. p.x2 ≤ℤ m) A (q ∷ []) upto (All-cons (λ p. p.x2 ≤ℤ m) q [] last (λ k d lt. absurd (omega (arith, lt))))

behind : (a t c s r : Bool) → (t || s) ≡ (t || r) → ((a || (t || c)) || s) ≡ ((a || (t || c)) || r)
behind a t c s r is = grind (arith, is)

hidden_part : (t1 t2 tb tt r1 r2 rb rt x y : ℤ) → t1 ≤ℤ r1 → r1 <ℤ t2 → t2 <ℤ r2 → tb ≤ℤ rb → rt ≤ℤ tt
    → ((is_between t1 t2 x && is_between tb tt y) || (is_between t2 r2 x && is_between rb rt y)) ≡ ((is_between t1 t2 x && is_between tb tt y) || (is_between r1 r2 x && is_between rb rt y))
hidden_part t1 t2 tb tt r1 r2 rb rt x y left past right low high = grind (arith, ints)

-- the part left of a tower stands before it
put_before : (A C : List Rect) (t r l : Rect) → Around A C t r → r.x1 <ℤ t.x1 → IsColumns l r r.x1 t.x1 → IsSkyline r.y1 (A ++ l ∷ t ∷ C)
put_before A C t r l h left l_is = standing r.y1 r.x1 A (l ∷ t ∷ C) (front_of A C t r h)
    (one_more r.y1 r.x1 l (t ∷ C) (same_le r.x1 l.x1 (sym l_is.0)) (same_le l.y1 r.y1 l_is.1) (rw l_is.2 (one_more r.y1 t.x1 t C (self t.x1) h.begun (rest_of A C t r h))))

-- a higher tower hides the first part, and the rest goes on after it
pub pass_after : (A C : List Rect) (t r s : Rect) → Around A C t r → t.x1 ≤ℤ r.x1 → t.x2 <ℤ r.x2 → r.y2 ≤ℤ t.y2 → IsColumns s r t.x2 r.x2
    → GoesOn r (A ++ t ∷ C) (A ++ t ∷ C) (length A + 1) s
pass_after A C t r s h left right higher s_is = record {
  is_open = opened (A ++ t ∷ []) C (A ++ t ∷ C) (length A + 1) s (sym (append_assoc A (t ∷ []) C)) (sym (length-append A (t ∷ [])))
      (rw s_is.1 (standing r.y1 t.x1 A (t ∷ C) (front_at A C t r h) (one_more r.y1 t.x1 t C (self t.x1) h.begun (rest_of A C t r h))))
      (rw s_is.0 (last_in A t t.x2 (λ k d lt. le_trans (get_or A k d).x2 r.x1 t.x2 (h.ended k d lt) (lt_le r.x1 t.x2 h.past)) (self t.x2)))
      (rw s_is.0 (beyond r.y1 t.x2 t.x2 C (self t.x2) (rest_of A C t r h)));
  bottom = s_is.1;
  right = s_is.2;
  squares = λ x y le. rw (both_parts A (t ∷ C) x y) (behind (covered A x y) (squares t x y) (covered C x y) (squares s x y) (squares r x y)
      (rw (columns_squares s r t.x2 r.x2 x y s_is) (hidden_part t.x1 t.x2 t.y1 t.y2 r.x1 r.x2 r.y1 r.y2 x y left h.past right h.begun higher)));
}

put_and_behind : (a l t c s r : Bool) → ((l || t) || s) ≡ (t || r) → ((a || (l || (t || c))) || s) ≡ ((a || (t || c)) || r)
put_and_behind a l t c s r is = grind (arith, is)

hidden_amid : (t1 t2 tb tt r1 r2 rb rt x y : ℤ) → r1 <ℤ t1 → t1 <ℤ t2 → t2 <ℤ r2 → tb ≤ℤ rb → rt ≤ℤ tt
    → (((is_between r1 t1 x && is_between rb rt y) || (is_between t1 t2 x && is_between tb tt y)) || (is_between t2 r2 x && is_between rb rt y))
    ≡ ((is_between t1 t2 x && is_between tb tt y) || (is_between r1 r2 x && is_between rb rt y))
hidden_amid t1 t2 tb tt r1 r2 rb rt x y left wide right low high = grind (arith, ints)

-- or it hides a part amid, and what lies left of it is put before it
pub pass_amid : (A C : List Rect) (t r l s : Rect) → Around A C t r → r.x1 <ℤ t.x1 → t.x2 <ℤ r.x2 → r.y2 ≤ℤ t.y2 → IsColumns l r r.x1 t.x1 → IsColumns s r t.x2 r.x2
    → GoesOn r (A ++ t ∷ C) (A ++ l ∷ t ∷ C) (length A + 2) s
pass_amid A C t r l s h left right higher l_is s_is = record {
  is_open = opened (A ++ l ∷ t ∷ []) C (A ++ l ∷ t ∷ C) (length A + 2) s (sym (append_assoc A (l ∷ t ∷ []) C)) (sym (length-append A (l ∷ t ∷ [])))
      (rw s_is.1 (put_before A C t r l h left l_is))
      (rw s_is.0 (subst (λ D. All (λ p. p.x2 ≤ℤ t.x2) D) (append_assoc A (l ∷ []) (t ∷ []))
      (last_in (A ++ l ∷ []) t t.x2 (last_in A l t.x2 (λ k d lt. le_trans (get_or A k d).x2 r.x1 t.x2 (h.ended k d lt) (lt_le r.x1 t.x2 h.past)) (rw l_is.2 (lt_le t.x1 t.x2 t.wide))) (self t.x2))))
      (rw s_is.0 (beyond r.y1 t.x2 t.x2 C (self t.x2) (rest_of A C t r h)));
  bottom = s_is.1;
  right = s_is.2;
  squares = λ x y le. rw (both_parts A (l ∷ t ∷ C) x y, both_parts A (t ∷ C) x y) (put_and_behind (covered A x y) (squares l x y) (squares t x y) (covered C x y) (squares s x y) (squares r x y)
      (rw (columns_squares l r r.x1 t.x1 x y l_is, columns_squares s r t.x2 r.x2 x y s_is) (hidden_amid t.x1 t.x2 t.y1 t.y2 r.x1 r.x2 r.y1 r.y2 x y left t.wide right h.begun higher)));
}

hidden : (t1 t2 tb tt r1 r2 rb rt x y : ℤ) → t1 ≤ℤ r1 → r2 ≤ℤ t2 → tb ≤ℤ rb → rt ≤ℤ tt
    → (is_between t1 t2 x && is_between tb tt y) ≡ ((is_between t1 t2 x && is_between tb tt y) || (is_between r1 r2 x && is_between rb rt y))
hidden t1 t2 tb tt r1 r2 rb rt x y left right low high = grind (arith, ints)

within_one : (a t c r : Bool) → t ≡ (t || r) → (a || (t || c)) ≡ ((a || (t || c)) || r)
within_one a t c r is = grind (arith, is)

-- a higher tower hides all that is left
pub pass_all : (A C : List Rect) (t r : Rect) → Around A C t r → t.x1 ≤ℤ r.x1 → r.x2 ≤ℤ t.x2 → r.y2 ≤ℤ t.y2 → IsSettled r (A ++ t ∷ C) (A ++ t ∷ C)
pass_all A C t r h left right higher = record {
  skyline = standing r.y1 t.x1 A (t ∷ C) (front_at A C t r h) (one_more r.y1 t.x1 t C (self t.x1) h.begun (rest_of A C t r h));
  squares = λ x y le. rw (both_parts A (t ∷ C) x y) (within_one (covered A x y) (squares t x y) (covered C x y) (squares r x y)
      (hidden t.x1 t.x2 t.y1 t.y2 r.x1 r.x2 r.y1 r.y2 x y left right h.begun higher));
}

put_and_within : (a l t c r : Bool) → (l || t) ≡ (t || r) → (a || (l || (t || c))) ≡ ((a || (t || c)) || r)
put_and_within a l t c r is = grind (arith, is)

hidden_end : (t1 t2 tb tt r1 r2 rb rt x y : ℤ) → r1 <ℤ t1 → t1 <ℤ r2 → r2 ≤ℤ t2 → tb ≤ℤ rb → rt ≤ℤ tt
    → ((is_between r1 t1 x && is_between rb rt y) || (is_between t1 t2 x && is_between tb tt y)) ≡ ((is_between t1 t2 x && is_between tb tt y) || (is_between r1 r2 x && is_between rb rt y))
hidden_end t1 t2 tb tt r1 r2 rb rt x y left meets right low high = grind (arith, ints)

-- or all but what lies left of it, which is put before it
pub pass_end : (A C : List Rect) (t r l : Rect) → Around A C t r → r.x1 <ℤ t.x1 → t.x1 <ℤ r.x2 → r.x2 ≤ℤ t.x2 → r.y2 ≤ℤ t.y2 → IsColumns l r r.x1 t.x1 → IsSettled r (A ++ t ∷ C) (A ++ l ∷ t ∷ C)
pass_end A C t r l h left meets right higher l_is = record {
  skyline = put_before A C t r l h left l_is;
  squares = λ x y le. rw (both_parts A (l ∷ t ∷ C) x y, both_parts A (t ∷ C) x y) (put_and_within (covered A x y) (squares l x y) (squares t x y) (covered C x y) (squares r x y)
      (rw (columns_squares l r r.x1 t.x1 x y l_is) (hidden_end t.x1 t.x2 t.y1 t.y2 r.x1 r.x2 r.y1 r.y2 x y left meets right h.begun higher)));
}

risen_left : (t1 t2 tb tt r1 r2 rb rt x y : ℤ) → t1 <ℤ r1 → r1 <ℤ t2 → t2 ≤ℤ r2 → tt <ℤ rt → rb ≤ℤ y
    → ((is_between t1 r1 x && is_between tb tt y) || (is_between r1 r2 x && is_between rb rt y)) ≡ ((is_between t1 t2 x && is_between tb tt y) || (is_between r1 r2 x && is_between rb rt y))
risen_left t1 t2 tb tt r1 r2 rb rt x y left past right lower le = grind (arith, ints)

instead : (a l t c r : Bool) → (l || r) ≡ (t || r) → ((a || (l || c)) || r) ≡ ((a || (t || c)) || r)
instead a l t c r is = grind (arith, is)

-- of a lower tower what lies left of the rectangle stays, which goes on after it
pub rise_after : (A C : List Rect) (t r l : Rect) → Around A C t r → t.x1 <ℤ r.x1 → t.x2 ≤ℤ r.x2 → t.y2 <ℤ r.y2 → IsColumns l t t.x1 r.x1
    → GoesOn r (A ++ t ∷ C) (A ++ l ∷ C) (length A + 1) r
rise_after A C t r l h left right lower l_is = record {
  is_open = opened (A ++ l ∷ []) C (A ++ l ∷ C) (length A + 1) r (sym (append_assoc A (l ∷ []) C)) (sym (length-append A (l ∷ [])))
      (standing r.y1 t.x1 A (l ∷ C) (front_at A C t r h) (one_more r.y1 t.x1 l C (same_le t.x1 l.x1 (sym l_is.0)) (rw l_is.1 h.begun) (rw l_is.2 (weaker r.y1 t.x2 r.x1 C (lt_le r.x1 t.x2 h.past) (rest_of A C t r h)))))
      (last_in A l r.x1 h.ended (same_le l.x2 r.x1 l_is.2))
      (beyond r.y1 t.x2 r.x1 C (lt_le r.x1 t.x2 h.past) (rest_of A C t r h));
  bottom = refl;
  right = refl;
  squares = λ x y le. rw (both_parts A (l ∷ C) x y, both_parts A (t ∷ C) x y) (instead (covered A x y) (squares l x y) (squares t x y) (covered C x y) (squares r x y)
      (rw (columns_squares l t t.x1 r.x1 x y l_is) (risen_left t.x1 t.x2 t.y1 t.y2 r.x1 r.x2 r.y1 r.y2 x y left h.past right lower le)));
}

risen_over : (t1 t2 tb tt r1 r2 rb rt x y : ℤ) → r1 ≤ℤ t1 → t2 ≤ℤ r2 → tt <ℤ rt → rb ≤ℤ y
    → (is_between r1 r2 x && is_between rb rt y) ≡ ((is_between t1 t2 x && is_between tb tt y) || (is_between r1 r2 x && is_between rb rt y))
risen_over t1 t2 tb tt r1 r2 rb rt x y left right lower le = grind (arith, ints)

one_less : (a t c r : Bool) → r ≡ (t || r) → ((a || c) || r) ≡ ((a || (t || c)) || r)
one_less a t c r is = grind (arith, is)

-- a tower that has no more than the rectangle is taken out
pub take_out : (A C : List Rect) (t r : Rect) → Around A C t r → IsNoMore t r → GoesOn r (A ++ t ∷ C) (A ++ C) (length A) r
take_out A C t r h no_more = record {
  is_open = opened A C (A ++ C) (length A) r refl refl (standing r.y1 r.x1 A C (front_of A C t r h) (weaker r.y1 t.x2 r.x1 C (lt_le r.x1 t.x2 h.past) (rest_of A C t r h)))
      h.ended (beyond r.y1 t.x2 r.x1 C (lt_le r.x1 t.x2 h.past) (rest_of A C t r h));
  bottom = refl;
  right = refl;
  squares = λ x y le. rw (both_parts A C x y, both_parts A (t ∷ C) x y) (one_less (covered A x y) (squares t x y) (covered C x y) (squares r x y) (no_more x y le));
}

-- a lower tower in the rectangle's columns has no more
pub no_more_over : (t r : Rect) → r.x1 ≤ℤ t.x1 → t.x2 ≤ℤ r.x2 → t.y2 <ℤ r.y2 → IsNoMore t r
no_more_over t r left right lower x y le = risen_over t.x1 t.x2 t.y1 t.y2 r.x1 r.x2 r.y1 r.y2 x y left right lower le

risen_right : (t1 t2 tb tt r1 r2 rb rt x y : ℤ) → r1 ≤ℤ t1 → t1 <ℤ r2 → r2 <ℤ t2 → tt <ℤ rt → rb ≤ℤ y
    → ((is_between r1 r2 x && is_between rb rt y) || (is_between r2 t2 x && is_between tb tt y)) ≡ ((is_between t1 t2 x && is_between tb tt y) || (is_between r1 r2 x && is_between rb rt y))
risen_right t1 t2 tb tt r1 r2 rb rt x y left meets right lower le = grind (arith, ints)

two_for_one : (a r u t c : Bool) → (r || u) ≡ (t || r) → (a || (r || (u || c))) ≡ ((a || (t || c)) || r)
two_for_one a r u t c is = grind (arith, is)

-- of a lower tower what lies right of the rectangle stays
pub rise_before : (A C : List Rect) (t r u : Rect) → Around A C t r → r.x1 ≤ℤ t.x1 → t.x1 <ℤ r.x2 → r.x2 <ℤ t.x2 → t.y2 <ℤ r.y2 → IsColumns u t r.x2 t.x2 → IsSettled r (A ++ t ∷ C) (A ++ r ∷ u ∷ C)
rise_before A C t r u h left meets right lower u_is = record {
  skyline = standing r.y1 r.x1 A (r ∷ u ∷ C) (front_of A C t r h) (one_more r.y1 r.x1 r (u ∷ C) (self r.x1) (self r.y1)
      (one_more r.y1 r.x2 u C (same_le r.x2 u.x1 (sym u_is.0)) (rw u_is.1 h.begun) (rw u_is.2 (rest_of A C t r h))));
  squares = λ x y le. rw (both_parts A (r ∷ u ∷ C) x y, both_parts A (t ∷ C) x y) (two_for_one (covered A x y) (squares r x y) (squares u x y) (squares t x y) (covered C x y)
      (rw (columns_squares u t r.x2 t.x2 x y u_is) (risen_right t.x1 t.x2 t.y1 t.y2 r.x1 r.x2 r.y1 r.y2 x y left meets right lower le)));
}

risen_amid : (t1 t2 tb tt r1 r2 rb rt x y : ℤ) → t1 <ℤ r1 → r1 <ℤ r2 → r2 <ℤ t2 → tt <ℤ rt → rb ≤ℤ y
    → ((is_between t1 r1 x && is_between tb tt y) || ((is_between r1 r2 x && is_between rb rt y) || (is_between r2 t2 x && is_between tb tt y))) ≡ ((is_between t1 t2 x && is_between tb tt y) || (is_between r1 r2 x && is_between rb rt y))
risen_amid t1 t2 tb tt r1 r2 rb rt x y left wide right lower le = grind (arith, ints)

three_for_one : (a l r u t c : Bool) → (l || (r || u)) ≡ (t || r) → (a || (l || (r || (u || c)))) ≡ ((a || (t || c)) || r)
three_for_one a l r u t c is = grind (arith, is)

-- of a lower tower what lies on both sides of the rectangle stays
pub rise_amid : (A C : List Rect) (t r l u : Rect) → Around A C t r → t.x1 <ℤ r.x1 → r.x2 <ℤ t.x2 → t.y2 <ℤ r.y2 → IsColumns l t t.x1 r.x1 → IsColumns u t r.x2 t.x2
    → IsSettled r (A ++ t ∷ C) (A ++ l ∷ r ∷ u ∷ C)
rise_amid A C t r l u h left right lower l_is u_is = record {
  skyline = standing r.y1 t.x1 A (l ∷ r ∷ u ∷ C) (front_at A C t r h) (one_more r.y1 t.x1 l (r ∷ u ∷ C) (same_le t.x1 l.x1 (sym l_is.0)) (rw l_is.1 h.begun) (rw l_is.2 (one_more r.y1 r.x1 r (u ∷ C) (self r.x1) (self r.y1)
      (one_more r.y1 r.x2 u C (same_le r.x2 u.x1 (sym u_is.0)) (rw u_is.1 h.begun) (rw u_is.2 (rest_of A C t r h))))));
  squares = λ x y le. rw (both_parts A (l ∷ r ∷ u ∷ C) x y, both_parts A (t ∷ C) x y) (three_for_one (covered A x y) (squares l x y) (squares r x y) (squares u x y) (squares t x y) (covered C x y)
      (rw (columns_squares l t t.x1 r.x1 x y l_is, columns_squares u t r.x2 t.x2 x y u_is) (risen_amid t.x1 t.x2 t.y1 t.y2 r.x1 r.x2 r.y1 r.y2 x y left r.wide right lower le)));
}

put_in : (a r d : Bool) → (a || (r || d)) ≡ ((a || d) || r)
put_in a r d = grind arith

-- edges, as the code compares them
pub edge_below : (a b u v : ℤ) → FitsSigned w64 a → FitsSigned w64 b → u ≡ a → v ≡ b → int_lt (read u) (read v) ≡ true → a <ℤ b
edge_below a b u v fa fb first second lt = is_lt a b (rw (first, second, read_is a fa, read_is b fb) at lt)

pub edge_from : (a b u v : ℤ) → FitsSigned w64 a → FitsSigned w64 b → u ≡ a → v ≡ b → int_lt (read u) (read v) ≡ false → b ≤ℤ a
edge_from a b u v fa fb first second over = not_lt a b (rw (first, second, read_is a fa, read_is b fb) at over)

pub columns_by : (l r : Rect) (a b u v : ℤ) → FitsSigned w64 a → FitsSigned w64 b → u ≡ a → v ≡ b → (l.x1 ≡ read u) × (l.y1 ≡ r.y1) × (l.x2 ≡ read v) × (l.y2 ≡ r.y2) → IsColumns l r a b
columns_by l r a b u v fa fb first second is = (edge_is a u l.x1 fa first is.0, is.1, edge_is b v l.x2 fb second is.2, is.3)

-- a list as what stands before a tower, it, and what stands after it
pub cut_at : (towers : List Rect) (at : ℕ) (t d : Rect) → at < length towers → t ≡ get_or towers at d → towers ≡ take at towers ++ t ∷ drop (suc at) towers
cut_at towers at t d lt is = split_at towers at d lt ∙ ap (λ q. take at towers ++ q ∷ drop (suc at) towers) (sym is)

pub drop_at : (towers : List Rect) (at : ℕ) (t d : Rect) → at < length towers → t ≡ get_or towers at d → drop at towers ≡ t ∷ drop (suc at) towers
drop_at towers at t d lt is = drop_more towers at d lt ∙ (ap (λ n. get_or towers at d ∷ drop n towers) (next at) ∙ ap (λ q. q ∷ drop (suc at) towers) (sym is))
  where
    next : (n : ℕ) → n + 1 ≡ suc n
    next n = omega arith

-- without those that give way, too
pub cut_without : (towers : List Rect) (from at : ℕ) (t d : Rect) → at < length towers → t ≡ get_or towers at d → without towers from at ≡ take from towers ++ t ∷ drop (suc at) towers
cut_without towers from at t d lt is = ap (λ l. take from towers ++ l) (drop_at towers at t d lt is)

-- what stands around the tower that a rectangle has come to
pub around_at : (towers : List Rect) (from at : ℕ) (t r : Rect) → from ≤ at → at < length towers → t ≡ get_or towers at r → IsOpen (without towers from at) from r → Around (take from towers) (drop (suc at) towers) t r
around_at towers from at t r le lt item is = around (take from towers) (drop (suc at) towers) t r
    (subst (λ n. IsOpen (take from towers ++ t ∷ drop (suc at) towers) n r) (sym (length-take-le from towers (omega (arith, le, lt))))
    (subst (λ l. IsOpen l from r) (cut_without towers from at t r lt item) is))

-- what stands after a rectangle that is put in place of others
pub after_put : (towers new : List Rect) (from at : ℕ) (q : Rect) → from ≤ length towers → new ≡ take from towers ++ q ∷ drop (at + 1) towers → drop (from + 1) new ≡ drop (at + 1) towers
after_put towers new from at q within new_is = ap (λ l. drop (from + 1) l) new_is
    ∙ subst (λ k. drop (k + 1) (take from towers ++ q ∷ drop (at + 1) towers) ≡ drop (at + 1) towers) (length-take-le from towers within) (drop-append-add (take from towers) (q ∷ drop (at + 1) towers) 1)

-- what holds of a list that is cut at the tower holds of the towers without those that give way
pub settled_at : (towers new X : List Rect) (from at : ℕ) (t r : Rect) → at < length towers → t ≡ get_or towers at r → new ≡ X
    → IsSettled r (take from towers ++ t ∷ drop (suc at) towers) X → IsSettled r (without towers from at) new
settled_at towers new X from at t r lt item new_is is = subst (λ zs. IsSettled r zs new) (sym (cut_without towers from at t r lt item)) (subst (λ zs. IsSettled r (take from towers ++ t ∷ drop (suc at) towers) zs) (sym new_is) is)

pub goes_at : (towers new X : List Rect) (from at n : ℕ) (t r s : Rect) → from ≤ at → at < length towers → t ≡ get_or towers at r → new ≡ X
    → GoesOn r (take from towers ++ t ∷ drop (suc at) towers) X (length (take from towers) + n) s → GoesOn r (without towers from at) new (from + n) s
goes_at towers new X from at n t r s le lt item new_is on =
    subst (λ k. GoesOn r (without towers from at) new (k + n) s) (length-take-le from towers (omega (arith, le, lt)))
    (subst (λ zs. GoesOn r zs new (length (take from towers) + n) s) (sym (cut_without towers from at t r lt item))
    (subst (λ zs. GoesOn r (take from towers ++ t ∷ drop (suc at) towers) zs (length (take from towers) + n) s) (sym new_is) on))

one_on : (n : ℕ) → n + 1 ≡ suc n
one_on n = omega arith

pub inserted : (A D : List Rect) (q : Rect) → insert (A ++ D) (length A) q ≡ A ++ q ∷ D
inserted A D q = insert-append_right A D (length A) (length A) q refl (omega arith) ∙ ap (λ n. A ++ insert D n q) (nothing (length A))
  where
    nothing : (n : ℕ) → n - n ≡ 0
    nothing n = omega arith

pub replaced : (A C : List Rect) (t q : Rect) → set (A ++ t ∷ C) (length A) q ≡ A ++ q ∷ C
replaced A C t q = set-append_right A (t ∷ C) (length A) (length A) q refl (omega arith) ∙ ap (λ n. A ++ set (t ∷ C) n q) (nothing (length A))
  where
    nothing : (n : ℕ) → n - n ≡ 0
    nothing n = omega arith

-- in place of one
set_in : (towers : List Rect) (from : ℕ) (r : Rect) → from < length towers → set towers from r ≡ take from towers ++ r ∷ drop (suc from) towers
set_in towers from r lt =
    let whole = cut_at towers from (get_or towers from r) r lt refl in
    subst (λ n. set towers n r ≡ take from towers ++ r ∷ drop (suc from) towers) (length-take-le from towers (omega (arith, lt)))
    (subst (λ l. set l (length (take from towers)) r ≡ take from towers ++ r ∷ drop (suc from) towers) (sym whole)
    (replaced (take from towers) (drop (suc from) towers) (get_or towers from r) r))

pub put_in_one : (towers : List Rect) (from to : ℕ) (r : Rect) → from ≤ to → to ≤ length towers → (from ≡ to → ⊥) → to ≤ from + 1 → set towers from r ≡ take from towers ++ r ∷ drop to towers
put_in_one towers from to r ordered within some one = by_lt from to
    (λ lt. set_in towers from r (omega (arith, lt, within)) ∙ ap (λ n. take from towers ++ r ∷ drop n towers) (next lt))
    (λ no. absurd (some (omega (arith, no, ordered))))
  where
    next : from < to → suc from ≡ to
    next lt = omega (arith, lt, one)

-- a rectangle that begins left of a higher tower, and what is put before that
pub passed_left : (towers new : List Rect) (from at : ℕ) (t r l : Rect) → from ≤ at → at < length towers → t ≡ get_or towers at r → IsOpen (without towers from at) from r
    → r.x1 <ℤ t.x1 → t.x1 <ℤ r.x2 → r.y2 ≤ℤ t.y2 → IsColumns l r r.x1 t.x1 → new ≡ take from towers ++ l ∷ drop at towers → IsPassed t r (without towers from at) new (from + 2)
passed_left towers new from at t r l le lt item is_open low meets higher l_is new_is = record {
  ends = λ right. settled_at towers new X from at t r lt item new_at (pass_end before behind t r l here low meets right higher l_is);
  goes_on = λ s right s_is. goes_at towers new X from at 2 t r s le lt item new_at (pass_amid before behind t r l s here low right higher l_is s_is);
}
  where
    before : List Rect
    before = take from towers

    behind : List Rect
    behind = drop (suc at) towers

    X : List Rect
    X = before ++ l ∷ t ∷ behind

    new_at : new ≡ X
    new_at = new_is ∙ ap (λ D. before ++ l ∷ D) (drop_at towers at t r lt item)

    here : Around before behind t r
    here = around_at towers from at t r le lt item is_open

pub after_left : (towers new : List Rect) (from at : ℕ) (t l : Rect) → from ≤ at → at < length towers → t ≡ get_or towers at t → new ≡ take from towers ++ l ∷ drop at towers → drop (from + 2) new ≡ drop (at + 1) towers
after_left towers new from at t l le lt item new_is = ap (λ zs. drop (from + 2) zs) (new_is ∙ ap (λ D. take from towers ++ l ∷ D) (drop_at towers at t t lt item))
    ∙ (subst (λ k. drop (k + 2) (take from towers ++ l ∷ t ∷ drop (suc at) towers) ≡ drop (suc at) towers) (length-take-le from towers (omega (arith, le, lt)))
    (drop-append-add (take from towers) (l ∷ t ∷ drop (suc at) towers) 2)
    ∙ ap (λ n. drop n towers) (sym (one_on at)))

-- one that begins at its left edge or right of it
pub passed_right : (towers new : List Rect) (from at : ℕ) (t r : Rect) → from ≤ at → at < length towers → t ≡ get_or towers at r → IsOpen (without towers from at) from r
    → t.x1 ≤ℤ r.x1 → r.y2 ≤ℤ t.y2 → new ≡ take from towers ++ t ∷ drop (at + 1) towers → IsPassed t r (without towers from at) new (from + 1)
passed_right towers new from at t r le lt item is_open left higher new_is = record {
  ends = λ right. settled_at towers new X from at t r lt item new_at (pass_all before behind t r here left right higher);
  goes_on = λ s right s_is. goes_at towers new X from at 1 t r s le lt item new_at (pass_after before behind t r s here left right higher s_is);
}
  where
    before : List Rect
    before = take from towers

    behind : List Rect
    behind = drop (suc at) towers

    X : List Rect
    X = before ++ t ∷ behind

    new_at : new ≡ X
    new_at = new_is ∙ ap (λ n. before ++ t ∷ drop n towers) (one_on at)

    here : Around before behind t r
    here = around_at towers from at t r le lt item is_open

-- the rectangle before what stays right of it
pub put_beside : (towers new : List Rect) (from at : ℕ) (r u : Rect) → from ≤ at → at < length towers → new ≡ take from (set towers at u) ++ r ∷ drop at (set towers at u) → new ≡ take from towers ++ r ∷ u ∷ drop (suc at) towers
put_beside towers new from at r u le lt new_is = new_is
    ∙ (ap (λ l. l ++ r ∷ drop at (set towers at u)) (take-set-le from towers at u le)
    ∙ ap (λ D. take from towers ++ r ∷ D) (drop-set towers at u lt ∙ ap (λ n. u ∷ drop n towers) (one_on at)))

-- and after what stays left of it
pub put_amid : (towers mid new : List Rect) (from at : ℕ) (l : Rect) (D : List Rect) → from ≤ at → at < length towers → mid ≡ take from towers ++ D → new ≡ insert mid from l → new ≡ take from towers ++ l ∷ D
put_amid towers mid new from at l D le lt mid_is new_is = new_is ∙ (ap (λ zs. insert zs from l) mid_is
    ∙ subst (λ n. insert (take from towers ++ D) n l ≡ take from towers ++ l ∷ D) (length-take-le from towers (omega (arith, le, lt))) (inserted (take from towers) D l))

-- the rectangle is put before towers that begin right of it, of which those that have ended may give way
put_at_seam : (A D : List Rect) (n : ℕ) (r : Rect) → IsOpen (A ++ D) (length A) r → All (λ q. r.x2 ≤ℤ q.x1) D → n ≤ length D → ((x y : ℤ) → r.y1 ≤ℤ y → covered (drop n D) x y ≡ covered D x y) → IsSettled r (A ++ D) (A ++ r ∷ drop n D)
put_at_seam A D n r is right few same = record {
  skyline = standing r.y1 r.x1 A (r ∷ drop n D)
      (record {
        apart = λ i j d low within. rw (← in_front i d (omega (arith, low, within)), ← in_front j d within) (is.skyline.apart i j d low (inside j within));
        upto = λ k d within. rw (← in_front k d within) (is.parted.0 k d (omega arith) within);
        begun = λ k d within. rw (← in_front k d within) (is.skyline.begun k d (inside k within));
      })
      (one_more r.y1 r.x1 r (drop n D) (self r.x1) (self r.y1)
      (record {
        apart = λ i j d low within. rw (← behind i d, ← behind j d) (is.skyline.apart (length A + (n + i)) (length A + (n + j)) d (omega (arith, low)) (later j within));
        from = λ k d within. rw (get_or-drop n D k d) (right (n + k) d (in_drop k within));
        begun = λ k d within. rw (← behind k d) (is.skyline.begun (length A + (n + k)) d (later k within));
      }));
  squares = λ x y le. rw (both_parts A (r ∷ drop n D) x y, both_parts A D x y, same x y le) (put_in (covered A x y) (squares r x y) (covered D x y));
}
  where
    inside : (k : ℕ) → k < length A → k < length (A ++ D)
    inside k within = let count = length-append A D in omega (arith, within, count)

    in_drop : (k : ℕ) → k < length (drop n D) → n + k < length D
    in_drop k within = let here : k < length D - n = rw (length-drop n D) at within in omega (arith, here)

    later : (k : ℕ) → k < length (drop n D) → length A + (n + k) < length (A ++ D)
    later k within = let count = length-append A D in let here = in_drop k within in omega (arith, here, count)

    in_front : (k : ℕ) (d : Rect) → k < length A → get_or (A ++ D) k d ≡ get_or A k d
    in_front k d within = get_or_append_left A D d k within

    behind : (k : ℕ) (d : Rect) → get_or (A ++ D) (length A + (n + k)) d ≡ get_or (drop n D) k d
    behind k d = get_or-append-add A D (n + k) d ∙ sym (get_or-drop n D k d)

-- the same of the towers before one and those from another on
pub put_at : (towers new : List Rect) (from at to : ℕ) (r : Rect) → from ≤ at → at ≤ to → to ≤ length towers → IsOpen (without towers from at) from r → All (λ q. r.x2 ≤ℤ q.x1) (drop at towers)
    → ((x y : ℤ) → r.y1 ≤ℤ y → covered (drop to towers) x y ≡ covered (drop at towers) x y) → new ≡ take from towers ++ r ∷ drop to towers → IsSettled r (without towers from at) new
put_at towers new from at to r ordered le within is right same new_is =
    subst (λ zs. IsSettled r (without towers from at) zs) (ap (λ D. take from towers ++ r ∷ D) further ∙ sym new_is)
    (put_at_seam (take from towers) (drop at towers) (to - at) r
    (subst (λ n. IsOpen (without towers from at) n r) (sym (length-take-le from towers (omega (arith, ordered, le, within)))) is) right
    (rw (length-drop at towers) (omega (arith, le, within)))
    (λ x y low. ap (λ l. covered l x y) further ∙ same x y low))
  where
    further : drop (to - at) (drop at towers) ≡ drop to towers
    further = drop-drop (to - at) at towers ∙ ap (λ n. drop n towers) (sum at to le)
      where
        sum : (a b : ℕ) → a ≤ b → a + (b - a) ≡ b
        sum a b h = omega (arith, h)

pub none_after : (old : List Rect) (at : ℕ) (m : ℤ) → at ≡ length old → All (λ q. m ≤ℤ q.x1) (drop at old)
none_after old at m is k d within = let here : k < length old - at = rw (length-drop at old) at within in absurd (omega (arith, here, is))

pub all_after : (old : List Rect) (at : ℕ) (t : Rect) (m : ℤ) → AreApart old → at < length old → t ≡ get_or old at t → m ≤ℤ t.x1 → All (λ q. m ≤ℤ q.x1) (drop at old)
all_after old at t m apart lt item right k d within = rw (get_or-drop at old k d) (by_lt 0 k (λ more. later more) (λ none. here (omega (arith, none))))
  where
    inside : at + k < length old
    inside = let here : k < length old - at = rw (length-drop at old) at within in omega (arith, here)

    first : m ≤ℤ (get_or old at d).x1
    first = subst (λ q. m ≤ℤ q.x1) (item ∙ get_or_default old at t d lt) right

    later : 0 < k → m ≤ℤ (get_or old (at + k) d).x1
    later more = le_lt_le m (get_or old at d).x1 (get_or old at d).x2 (get_or old (at + k) d).x1 first (get_or old at d).wide (apart at (at + k) d (omega (arith, more)) inside)

    here : at + k ≡ at → m ≤ℤ (get_or old (at + k) d).x1
    here is = rw is first

pub edge_upto : (a b u v : ℤ) → FitsSigned w64 a → FitsSigned w64 b → u ≡ a → v ≡ b → int_le (read u) (read v) ≡ true → a ≤ℤ b
edge_upto a b u v fa fb first second le = le_is a b (rw (first, second, read_is a fa, read_is b fb) at le)
  where
    le_is : (a b : ℤ) → int_le a b ≡ true → a ≤ℤ b
    le_is a b h = grind (arith, ints)

pub before_end : (at n m : ℕ) → at ≤ n → m ≡ n → (at ≡ m → ⊥) → at < n
before_end at n m le is other = by_lt at n (λ lt. lt) (λ past. absurd (other (omega (arith, past, le, is))))

-- a way that goes on twice
pub goes_twice : (rect : Rect) (old mid new : List Rect) (at next : ℕ) (rest s : Rect) → GoesOn rect old mid at rest → GoesOn rest mid new next s → GoesOn rect old new next s
goes_twice rect old mid new at next rest s first second = record {
  is_open = second.is_open;
  bottom = second.bottom ∙ first.bottom;
  right = second.right ∙ first.right;
  squares = λ x y le. second.squares x y (rw first.bottom le) ∙ first.squares x y le;
}

pub goes_then_ends : (rect : Rect) (old mid new : List Rect) (at : ℕ) (rest : Rect) → GoesOn rect old mid at rest → IsSettled rest mid new → IsSettled rect old new
goes_then_ends rect old mid new at rest first settled = record {
  skyline = subst (λ z. IsSkyline z new) first.bottom settled.skyline;
  squares = λ x y le. settled.squares x y (rw first.bottom le) ∙ first.squares x y le;
}

-- a rectangle on its way over the towers, of which those from `from` to `at` give way: it has come to so many of the old ones, and what those had of it is counted
pub record IsOnTheWay (rect : Rect) (old towers : List Rect) (from at : ℕ) (rest : Rect) (met : ℕ) (hidden : ℤ) : Type 0 where
  pub ordered : from ≤ at
  pub within : at ≤ length towers
  pub goes : GoesOn rect old (without towers from at) from rest
  pub all_met : met ≤ length old
  pub ahead : drop at towers ≡ drop met old
  pub counted : hidden ≡ pos (area_of (covered (take met old)) rect)

pub sets_out : (rect : Rect) (old : List Rect) (first : ℕ) → IsOpen old first rect → 0 ≡ area_of (covered (take first old)) rect → IsOnTheWay rect old old first first rect first (pos 0)
sets_out rect old first is none = record {
  ordered = omega arith;
  within = is.within;
  goes = subst (λ l. GoesOn rect old l first rect) (sym (take-append-drop first old)) (record { is_open = is; bottom = refl; right = refl; squares = λ x y le. refl });
  all_met = is.within;
  ahead = refl;
  counted = ap (λ n. pos n) none;
}

-- the next tower ahead is the next of the old ones
pub record IsNext (old towers : List Rect) (at met : ℕ) : Type 0 where
  pub item : (d : Rect) → get_or towers at d ≡ get_or old met d
  pub inside : met < length old
  pub after : drop (at + 1) towers ≡ drop (met + 1) old

pub next_is : (old towers : List Rect) (at met : ℕ) (t : Rect) → at < length towers → drop at towers ≡ drop met old → IsNext old towers at met
next_is old towers at met t lt ahead = record {
  item = λ d. ap (λ l. get_or l 0 d) (both d);
  inside = inside;
  after = ap (λ l. drop 1 l) (both t);
}
  where
    inside : met < length old
    inside = let count : length towers - at ≡ length old - met = sym (length-drop at towers) ∙ (ap length ahead ∙ length-drop met old) in omega (arith, lt, count)

    both : (d : Rect) → (get_or towers at d ∷ drop (at + 1) towers) ≡ (get_or old met d ∷ drop (met + 1) old)
    both d = sym (drop_more towers at d lt) ∙ (ahead ∙ drop_more old met d inside)

-- one tower fewer is ahead
pub fewer : (towers new : List Rect) (at next : ℕ) → at < length towers → drop next new ≡ drop (at + 1) towers → length new - next < length towers - at
fewer towers new at next lt after = let count : length new - next ≡ length towers - (at + 1) = sym (length-drop next new) ∙ (ap length after ∙ length-drop (at + 1) towers) in omega (arith, lt, count)

-- all that towers have of a rectangle the ones met have, where the next begins right of it
pub all_hidden : (rect : Rect) (old : List Rect) (met : ℕ) (hidden : ℤ) → All (λ q. rect.x2 ≤ℤ q.x1) (drop met old) → met ≤ length old → hidden ≡ pos (area_of (covered (take met old)) rect)
    → hidden ≡ pos (area_of (covered old) rect)
all_hidden rect old met hidden right within is = is ∙ ap (λ n. pos n) (sym (same_within (covered old) (covered (take met old)) rect
    (λ x y here. right_of old met x y (λ j d from inside. lt_le_lt x rect.x2 (get_or old j d).x1 (in_rect x y here) (later j d from inside)))))
  where
    lt_le_lt : (a b c : ℤ) → a <ℤ b → b ≤ℤ c → a <ℤ c
    lt_le_lt a b c h k = omega (arith, ints, clamps)

    in_rect : (x y : ℤ) → squares rect x y ≡ true → x <ℤ rect.x2
    in_rect x y here = (is_between_bounds rect.x1 rect.x2 x (and_parts (is_between rect.x1 rect.x2 x) (is_between rect.y1 rect.y2 y) here).0).1

    later : (j : ℕ) (d : Rect) → met ≤ j → j < length old → rect.x2 ≤ℤ (get_or old j d).x1
    later j d from inside = subst (λ i. rect.x2 ≤ℤ (get_or old i d).x1) (back met j from) (rw (get_or-drop met old (j - met) d) at (right (j - met) d (rw (length-drop met old) (omega (arith, from, inside)))))
      where
        back : (a j : ℕ) → a ≤ j → a + (j - a) ≡ j
        back a j le = omega (arith, le)

-- what the tower that it has come to hides is counted
pub counts : (rect : Rect) (old towers : List Rect) (from at : ℕ) (rest : Rect) (met : ℕ) (hidden shared : ℤ) (t : Rect) → IsOnTheWay rect old towers from at rest met hidden → AreApart old → at < length towers → t ≡ get_or towers at t
    → shared ≡ pos (area_of (squares t) rect) → FitsSigned w64 (hidden +ℤ read shared) × (read (hidden +ℤ read shared) ≡ pos (area_of (covered (take (met + 1) old)) rect))
counts rect old towers from at rest met hidden shared t way apart lt item shared_is =
    let next = next_is old towers at met t lt way.ahead in let in_old : t ≡ get_or old met t = item ∙ next.item t in
    apart_more old met t rect hidden shared next.inside in_old (tower_apart old met t apart next.inside in_old) way.counted shared_is

-- where the rest ends at the tower or before its end, none ahead has more of the rectangle
pub counted_all : (rect : Rect) (old towers : List Rect) (from at : ℕ) (rest : Rect) (met : ℕ) (hidden more : ℤ) (t : Rect) → IsOnTheWay rect old towers from at rest met hidden → at < length towers → t ≡ get_or towers at rest
    → rest.x2 ≤ℤ t.x2 → more ≡ pos (area_of (covered (take (met + 1) old)) rect) → more ≡ pos (area_of (covered old) rect)
counted_all rect old towers from at rest met hidden more t way lt item right more_is =
    let next = next_is old towers at met rest lt way.ahead in
    all_hidden rect old (met + 1) more
    (subst (λ D. All (λ q. rect.x2 ≤ℤ q.x1) D) (ap (λ n. drop n towers) (sym (one_on at)) ∙ next.after)
    (λ k d inside. le_trans rect.x2 t.x2 (get_or (drop (suc at) towers) k d).x1 (subst (λ z. z ≤ℤ t.x2) way.goes.right right)
    ((around_at towers from at t rest way.ordered lt item way.goes.is_open).right k d inside)))
    (let inside = next.inside in omega (arith, inside)) more_is

-- nor where the tower begins right of it, or there is none
pub counted_before : (rect : Rect) (old towers : List Rect) (from at : ℕ) (rest : Rect) (met : ℕ) (hidden : ℤ) → IsOnTheWay rect old towers from at rest met hidden → All (λ q. rest.x2 ≤ℤ q.x1) (drop at towers)
    → hidden ≡ pos (area_of (covered old) rect)
counted_before rect old towers from at rest met hidden way right = all_hidden rect old met hidden
    (subst (λ D. All (λ q. rect.x2 ≤ℤ q.x1) D) way.ahead (subst (λ z. All (λ q. z ≤ℤ q.x1) (drop at towers)) way.goes.right right)) way.all_met way.counted

-- there the rest is put, in place of those that give way
pub put_last : (rect : Rect) (old towers new : List Rect) (from at to : ℕ) (rest : Rect) (met : ℕ) (hidden : ℤ) → IsOnTheWay rect old towers from at rest met hidden → All (λ q. rest.x2 ≤ℤ q.x1) (drop at towers)
    → at ≤ to → to ≤ length towers → ((x y : ℤ) → rest.y1 ≤ℤ y → covered (drop to towers) x y ≡ covered (drop at towers) x y) → new ≡ take from towers ++ rest ∷ drop to towers → IsSettled rect old new
put_last rect old towers new from at to rest met hidden way right le within same new_is =
    goes_then_ends rect old (without towers from at) new from rest way.goes (put_at towers new from at to rest way.ordered le within way.goes.is_open right same new_is)

-- the towers from the one that it has come to, where that begins right of the rest
pub right_from : (towers : List Rect) (from at : ℕ) (t rest : Rect) → from ≤ at → at < length towers → t ≡ get_or towers at rest → IsOpen (without towers from at) from rest → rest.x2 ≤ℤ t.x1 → All (λ q. rest.x2 ≤ℤ q.x1) (drop at towers)
right_from towers from at t rest le lt item is_open right = subst (λ D. All (λ q. rest.x2 ≤ℤ q.x1) D) (sym (drop_at towers at t rest lt item))
    (All-cons (λ q. rest.x2 ≤ℤ q.x1) t (drop (suc at) towers) right (λ k d inside. le_lt_le rest.x2 t.x1 t.x2 (get_or (drop (suc at) towers) k d).x1 right t.wide
    ((around_at towers from at t rest le lt item is_open).right k d inside)))

-- it goes on over a tower that gives way
pub gives_way : (rect : Rect) (old towers : List Rect) (from at : ℕ) (rest : Rect) (met : ℕ) (hidden more : ℤ) (t : Rect) → IsOnTheWay rect old towers from at rest met hidden → at < length towers → t ≡ get_or towers at rest
    → IsNoMore t rest → more ≡ pos (area_of (covered (take (met + 1) old)) rect) → IsOnTheWay rect old towers from (at + 1) rest (met + 1) more
gives_way rect old towers from at rest met hidden more t way lt item no_more more_is =
    let next = next_is old towers at met rest lt way.ahead in let here = around_at towers from at t rest way.ordered lt item way.goes.is_open in
    record {
      ordered = let le = way.ordered in omega (arith, le);
      within = omega (arith, lt);
      goes = goes_twice rect old (without towers from at) (without towers from (at + 1)) from from rest rest way.goes
          (subst (λ n. GoesOn rest (without towers from at) (take from towers ++ drop n towers) from rest) (one_on at)
          (subst (λ l. GoesOn rest l (take from towers ++ drop (suc at) towers) from rest) (sym (cut_without towers from at t rest lt item))
          (subst (λ n. GoesOn rest (take from towers ++ t ∷ drop (suc at) towers) (take from towers ++ drop (suc at) towers) n rest) (length-take-le from towers (let le = way.ordered in omega (arith, le, lt)))
          (take_out (take from towers) (drop (suc at) towers) t rest here no_more))));
      all_met = let inside = next.inside in omega (arith, inside);
      ahead = next.after;
      counted = more_is;
    }
  where
    one_on : (n : ℕ) → suc n ≡ n + 1
    one_on n = omega arith

-- past a higher one
pub passes : (rect : Rect) (old towers new : List Rect) (from at next : ℕ) (rest s : Rect) (met : ℕ) (hidden more : ℤ) → IsOnTheWay rect old towers from at rest met hidden → at < length towers
    → GoesOn rest (without towers from at) new next s → drop next new ≡ drop (at + 1) towers → more ≡ pos (area_of (covered (take (met + 1) old)) rect) → IsOnTheWay rect old new next next s (met + 1) more
passes rect old towers new from at next rest s met hidden more way lt on after more_is =
    let following = next_is old towers at met rest lt way.ahead in
    record {
      ordered = omega arith;
      within = on.is_open.within;
      goes = goes_twice rect old (without towers from at) (without new next next) from next rest s way.goes (subst (λ l. GoesOn rest (without towers from at) l next s) (sym (take-append-drop next new)) on);
      all_met = let inside = following.inside in omega (arith, inside);
      ahead = after ∙ following.after;
      counted = more_is;
    }

-- or beside a lower one, of which the left part stays
pub rises : (rect : Rect) (old towers new : List Rect) (from at : ℕ) (rest : Rect) (met : ℕ) (hidden more : ℤ) (t l : Rect) → IsOnTheWay rect old towers from at rest met hidden → at < length towers → t ≡ get_or towers at rest
    → t.x1 <ℤ rest.x1 → t.x2 ≤ℤ rest.x2 → t.y2 <ℤ rest.y2 → IsColumns l t t.x1 rest.x1 → new ≡ take from towers ++ l ∷ drop (at + 1) towers
    → more ≡ pos (area_of (covered (take (met + 1) old)) rect) → IsOnTheWay rect old new (from + 1) (from + 1) rest (met + 1) more
rises rect old towers new from at rest met hidden more t l way lt item left right lower l_is new_is more_is =
    let le = way.ordered in let before = take from towers in let behind = drop (suc at) towers in
    passes rect old towers new from at (from + 1) rest rest met hidden more way lt
    (goes_at towers new (before ++ l ∷ behind) from at 1 t rest rest le lt item (new_is ∙ ap (λ n. before ++ l ∷ drop n towers) (one_on at))
    (rise_after before behind t rest l (around_at towers from at t rest le lt item way.goes.is_open) left right lower l_is))
    (after_put towers new from at l (omega (arith, le, lt)) new_is) more_is

pub reads_lt : (a b u v : ℤ) → FitsSigned w64 a → FitsSigned w64 b → u ≡ a → v ≡ b → a <ℤ b → read u <ℤ read v
reads_lt a b u v fa fb first second lt = rw (first, second, read_is a fa, read_is b fb) lt

pub not_upto : (a b u v : ℤ) → FitsSigned w64 a → FitsSigned w64 b → u ≡ a → v ≡ b → int_le (read u) (read v) ≡ false → b <ℤ a
not_upto a b u v fa fb first second over = not_le b a (rw (first, second, read_is a fa, read_is b fb) at over)
