-- A piece found among pieces that stand from left to right.
use Rattle.std.proofs.Common.{◌≡◌, refl, ap, ◌∙◌, ℕ, zero, suc, ◌≤◌, ◌<◌, ℤ, ◌≤ℤ◌, ◌<ℤ◌, arith, inl, inr, ◌⊎◌, true, false, List, [], ◌∷◌, length, get_or, Some, None}
use Rattle.std.specs.Prelude.{◌==◌, int_lt}
use Rattle.std.specs.List.Sorted.{IsPartitionedBy, IsPartitionPoint}
use Rattle.std.specs.Ordering.{int_eq}
use Rattle.std.proofs.lemmas.Bool.{and_parts, cases_Bool}
use Rattle.std.proofs.lemmas.Bool.Decides.{Decides-int_eq}
use Rattle.std.proofs.lemmas.Int.{ints}
use Rattle.fill_stacks.specs.Counting.{AreRising, found, is_piece}
use Rattle.fill_stacks.specs.declared.pieces.Counted.{Counted}
use Rattle.fill_stacks.specs.declared.pieces.Piece.{Piece}

-- a piece that begins elsewhere is another one
other_start : (p q : Piece) → (q.start ≡ p.start → ⊥) → is_piece p q ≡ false
other_start p q apart = elim (cases_Bool (is_piece p q)) [
  | inl same ↦ absurd (apart ((Decides-int_eq q.start p.start).0 (and_parts (int_eq q.start p.start) (q.count == p.count) same).0))
  | inr h ↦ h
]

less_apart : (x y : ℤ) → x <ℤ y → x ≡ y → ⊥
less_apart x y lt e = omega (arith, ints)

more_apart : (x y : ℤ) → y <ℤ x → x ≡ y → ⊥
more_apart x y lt e = omega (arith, ints)

pub found_at : (cs : List Counted) (p : Piece) (n : ℕ) (d : Counted) → ((a : ℕ) → a < n → (get_or cs a d).piece.start <ℤ p.start) → n < length cs → is_piece p (get_or cs n d).piece ≡ true → found cs p ≡ Some (get_or cs n d).rows
found_at [] p n d before lt here = absurd (omega (arith, lt))
found_at (c ∷ cs) p zero d before lt here = rw here refl
found_at (c ∷ cs) p (suc n) d before lt here =
    rw (other_start p c.piece (less_apart c.piece.start p.start (before 0 (omega arith)))) (found_at cs p n d (λ a below. before (suc a) (omega (arith, below))) (omega (arith, lt)) here)

pub found_none : (cs : List Counted) (p : Piece) (d : Counted) → ((a : ℕ) → a < length cs → is_piece p (get_or cs a d).piece ≡ false) → found cs p ≡ None
found_none [] p d each = refl
found_none (c ∷ cs) p d each = rw (each 0 (omega arith)) (found_none cs p d (λ a lt. each (suc a) (omega (arith, lt))))

is_lt : (x y : ℤ) → int_lt x y ≡ true → x <ℤ y
is_lt x y h = grind (arith, ints)

lt_is : (x y : ℤ) → x <ℤ y → int_lt x y ≡ true
lt_is x y h = grind (arith, ints)

not_lt : (x y : ℤ) → int_lt x y ≡ false → y ≤ℤ x
not_lt x y h = grind (arith, ints)

-- the pieces that begin before another come before the rest
pub parted : (cs : List Counted) (p : Piece) → AreRising cs → IsPartitionedBy (λ c. int_lt c.piece.start p.start) cs
parted cs p rising i j d le lt at = elim (cases i j le) [
  | inl same ↦ ap (λ k. int_lt (get_or cs k d).piece.start p.start) same ∙ at
  | inr below ↦ lt_is _ _ (trans _ _ _ (rising i j d below lt) (is_lt _ _ at))
]
  where
    cases : (i j : ℕ) → i ≤ j → (i ≡ j) ⊎ (i < j)
    cases i j le = grind (arith, le)

    trans : (x y z : ℤ) → x <ℤ y → y <ℤ z → x <ℤ z
    trans x y z h k = omega (arith, ints)

-- where the first that doesn't begin before the piece is another, or there is none, the piece isn't there
pub not_there : (cs : List Counted) (p : Piece) (n : ℕ) (d : Counted) → AreRising cs → IsPartitionPoint (λ c. int_lt c.piece.start p.start ≡ true) (λ c. int_lt c.piece.start p.start ≡ false) cs n
    → (n < length cs → is_piece p (get_or cs n d).piece ≡ false) → found cs p ≡ None
not_there cs p n d rising point here = found_none cs p d (λ a lt. elim (cases a n) [
  | inl below ↦ other_start p _ (less_apart _ _ (is_lt _ _ (point.0 a d (least a) below)))
  | inr rest ↦ elim rest [
    | inl same ↦ ap (λ k. is_piece p (get_or cs k d).piece) same ∙ here (first a lt same)
    | inr above ↦ other_start p _ (more_apart _ _ (le_lt _ _ _ (not_lt _ _ (point.1 n d (self n) (before a lt above))) (rising n a d above lt)))
  ]
])
  where
    cases : (a n : ℕ) → (a < n) ⊎ ((a ≡ n) ⊎ (n < a))
    cases a n = grind arith

    least : (a : ℕ) → 0 ≤ a
    least a = omega arith

    first : (a : ℕ) → a < length cs → a ≡ n → n < length cs
    first a lt same = omega (arith, lt, same)

    before : (a : ℕ) → a < length cs → n < a → n < length cs
    before a lt above = omega (arith, lt, above)

    self : (n : ℕ) → n ≤ n
    self n = omega arith

    le_lt : (x y z : ℤ) → x ≤ℤ y → y <ℤ z → x <ℤ z
    le_lt x y z h k = omega (arith, ints)

pub there : (cs : List Counted) (p : Piece) (n : ℕ) (d : Counted) → IsPartitionPoint (λ c. int_lt c.piece.start p.start ≡ true) (λ c. int_lt c.piece.start p.start ≡ false) cs n
    → n < length cs → is_piece p (get_or cs n d).piece ≡ true → found cs p ≡ Some (get_or cs n d).rows
there cs p n d point lt here = found_at cs p n d (λ a below. is_lt _ _ (point.0 a d (least a) below)) lt here
  where
    least : (a : ℕ) → 0 ≤ a
    least a = omega arith
