-- The first rectangle of a row from a column on.
use Rattle.std.proofs.Common.{◌≡◌, ℕ, ◌+◌, ◌<◌, ◌≤◌, ℤ, pos, ◌≤ℤ◌, ◌<ℤ◌, true, false, List, [], ◌∷◌, ◌++◌, length, get_or, arith, ◌∙◌, ap, subst, sym}
use Rattle.std.specs.Prelude.{int_lt}
use Rattle.std.specs.List.{All, Contains}
use Rattle.std.specs.List.Sorted.{IsPartitionedBy, IsPartitionPoint}
use Rattle.std.proofs.lemmas.Int.{ints, by_lt_z}
use Rattle.std.proofs.lemmas.List.{get_or_default, get_or_append_left, get_or_push, length-append}
use Rattle.fill_base.specs.declared.rect.Rect.{Rect}
use Rattle.fill_base.proofs.Signed.{is_lt, not_lt}
use Rattle.fill_spans.specs.Columns.{IsRisingBy}
use Rattle.fill_region.specs.Steps.{AreLeftOf, IsPlaceOf}

by_lt : {P : Type 0} (a b : ℕ) → (a < b → P) → (b ≤ a → P) → P
by_lt a b f g = by_lt_z (pos a) (pos b) (λ h. f (omega (arith, ints))) (λ h. g (omega (arith, ints)))

pub left_first : (rects : List Rect) (column : ℤ) → IsRisingBy (λ r. r.x1) rects → IsPartitionedBy (λ r. int_lt r.x1 column) rects
left_first rects column rising i j d le lt h = le_lt (get_or rects i d).x1 (get_or rects j d).x1 column (rising i j d le lt) h
  where
    le_lt : (a b c : ℤ) → a ≤ℤ b → int_lt b c ≡ true → int_lt a c ≡ true
    le_lt a b c h k = grind (arith, ints)

-- where a rectangle begins at the column, the first one from there on does
pub record BeginsAt (rects : List Rect) (column : ℤ) (n : ℕ) : Type 0 where
  pub within : n < length rects
  pub begins : (d : Rect) → (get_or rects n d).x1 ≡ column

pub place_found : (rects : List Rect) (column : ℤ) (n : ℕ) → n ≤ length rects → IsPartitionPoint (λ r. int_lt r.x1 column ≡ true) (λ r. int_lt r.x1 column ≡ false) rects n → IsPlaceOf rects column n
place_found rects column n within point = record {
  within = within;
  left = λ j d lt. is_lt (get_or rects j d).x1 column (point.0 j d (omega arith) lt);
  right = λ j d le lt. not_lt (get_or rects j d).x1 column (point.1 j d le lt);
}

pub begins_at : (rects : List Rect) (column : ℤ) (n : ℕ) → IsRisingBy (λ r. r.x1) rects → IsPlaceOf rects column n
    → (r : Rect) → Contains rects r → r.x1 ≡ column → BeginsAt rects column n
begins_at rects column n rising place r (j, lt, at) is = by_lt j n
    (λ before. absurd (not_both (get_or rects j r).x1 r.x1 column (place.left j r before) (ap (λ s. s.x1) at) is))
    (λ from. let within : n < length rects = omega (arith, from, lt) in
    let low = place.right n r (omega arith) within in
    let high = rising n j r from lt in
    record {
      within = within;
      begins = λ d. ap (λ s. s.x1) (get_or_default rects n d r within) ∙ equal (get_or rects n r).x1 (get_or rects j r).x1 r.x1 column low high (ap (λ s. s.x1) at) is;
    })
  where
    not_both : (a b c : ℤ) → a <ℤ c → a ≡ b → b ≡ c → ⊥
    not_both a b c lt same is = omega (arith, ints)

    equal : (a b c d : ℤ) → d ≤ℤ a → a ≤ℤ b → b ≡ c → c ≡ d → a ≡ d
    equal a b c d low high same is = omega (arith, ints)

-- one more behind those that begin left of it or with it
pub rising_push : (rects : List Rect) (r : Rect) → IsRisingBy (λ s. s.x1) rects → All (λ s. s.x1 ≤ℤ r.x1) rects → IsRisingBy (λ s. s.x1) (rects ++ r ∷ [])
rising_push rects r rising below i j d le lt = by_lt j (length rects)
    (λ inner. read (get_or_append_left rects (r ∷ []) d i (omega (arith, le, inner))) (get_or_append_left rects (r ∷ []) d j inner) (rising i j d le inner))
    (λ past. let last : length rects ≡ j = omega (arith, past, within) in
    by_lt i (length rects)
    (λ inner. read (get_or_append_left rects (r ∷ []) d i inner) (get_or_push rects r d j last) (below i d inner))
    (λ too. let here : length rects ≡ i = omega (arith, too, le, last) in read (get_or_push rects r d i here) (get_or_push rects r d j last) (same r.x1)))
  where
    within : j < length rects + 1
    within = rw (length-append rects (r ∷ [])) at lt

    same : (a : ℤ) → a ≤ℤ a
    same a = omega (arith, ints)

    read : {a b c e : Rect} → a ≡ c → b ≡ e → c.x1 ≤ℤ e.x1 → a.x1 ≤ℤ b.x1
    read is_a is_b h = rw (is_a, is_b) h

-- ---- a list searched by steps for the columns of another one

-- those before the place begin left of all that are still to be looked for
pub record IsBefore (searched : List Rect) (place : ℕ) (rects : List Rect) (n : ℕ) : Type 0 where
  pub within : place ≤ length searched
  pub left : (i : ℕ) (e : Rect) → n ≤ i → i < length rects → AreLeftOf searched place (get_or rects i e).x1

pub before_all : (searched rects : List Rect) → IsBefore searched 0 rects 0
before_all searched rects = record { within = omega arith; left = λ i e le lt j d none. absurd (omega (arith, none)) }

pub before_next : (searched rects : List Rect) (place n : ℕ) (r : Rect) → IsRisingBy (λ s. s.x1) rects → n < length rects → r ≡ get_or rects n r → IsPlaceOf searched r.x1 place → IsBefore searched place rects (n + 1)
before_next searched rects place n r rising lt is found = record {
  within = found.within;
  left = λ i e le lt_i j d here. reach (get_or searched j d).x1 r.x1 (get_or rects n e).x1 (get_or rects i e).x1 (found.left j d here) (ap (λ s. s.x1) (is ∙ get_or_default rects n r e lt)) (rising n i e (omega (arith, le)) lt_i);
}
  where
    reach : (a b c d : ℤ) → a <ℤ b → b ≡ c → c ≤ℤ d → a <ℤ d
    reach a b c d h g f = omega (arith, ints)

pub before_this : (searched rects : List Rect) (place n : ℕ) (r : Rect) → n < length rects → r ≡ get_or rects n r → IsBefore searched place rects n → AreLeftOf searched place r.x1
before_this searched rects place n r lt is b = subst (λ a. AreLeftOf searched place a) (sym (ap (λ s. s.x1) is)) (b.left n r (omega arith) lt)

-- a search by steps that has come to one that doesn't begin left of the column
pub place_reached : (rects : List Rect) (column : ℤ) (n : ℕ) (r : Rect) → IsRisingBy (λ s. s.x1) rects → n < length rects → r ≡ get_or rects n r → AreLeftOf rects n column → column ≤ℤ r.x1 → IsPlaceOf rects column n
place_reached rects column n r rising lt is left from = record {
  within = omega (arith, lt);
  left = left;
  right = λ j d le lt_j. reach column r.x1 (get_or rects n d).x1 (get_or rects j d).x1 from (ap (λ s. s.x1) (is ∙ get_or_default rects n r d lt)) (rising n j d le lt_j);
}
  where
    reach : (a b c d : ℤ) → a ≤ℤ b → b ≡ c → c ≤ℤ d → a ≤ℤ d
    reach a b c d h g f = omega (arith, ints)
