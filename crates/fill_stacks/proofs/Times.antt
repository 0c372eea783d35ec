-- How many elements of a list pass a test, and lists that are one another in another order.
use Rattle.std.proofs.Common.{◌≡◌, refl, ap, sym, subst, ◌∙◌, ℕ, zero, suc, ◌+◌, ◌≤◌, ℤ, pos, ◌+ℤ◌, arith, inl, inr, Bool, true, false, cond, List, [], ◌∷◌, ◌++◌, map}
use Rattle.std.specs.Prelude.{if◌then◌else◌, filter}
use Rattle.std.specs.List.{flat_map}
use Rattle.std.specs.List.Sorted.{IsPermutation}
use Rattle.std.specs.Ordering.{int_eq}
use Rattle.std.proofs.lemmas.Bool.{cases_Bool}
use Rattle.std.proofs.lemmas.Int.{ints}
use Rattle.std.proofs.lemmas.List.Sorted.{IsPermutation-cons, IsPermutation-middle, IsPermutation-refl, IsPermutation-sym, IsPermutation-trans}
use Rattle.fill_base.specs.Counts.{is_between}
use Rattle.fill_stacks.specs.Stacks.{IsOne}
use Rattle.fill_stacks.specs.Runs.{numbers_from}

-- the sum of a number of each element
abbrev pub total : {X : Type 0} → (X → ℕ) → List X → ℕ
total f [] = 0
total f (x ∷ xs) = f x + total f xs

abbrev pub one_if : Bool → ℕ
one_if b = cond b 1 0

-- how many elements pass
abbrev pub times : {X : Type 0} → (X → Bool) → List X → ℕ
times p xs = total (λ x. one_if (p x)) xs

zero_plus : (n : ℕ) → n ≡ 0 + n
zero_plus n = omega arith

pub total_append : {X : Type 0} (f : X → ℕ) (xs ys : List X) → total f (xs ++ ys) ≡ total f xs + total f ys
total_append f [] ys = zero_plus (total f ys)
total_append f (x ∷ xs) ys = let later = total_append f xs ys in omega (arith, later)

pub total_flat : {X Y : Type 0} (f : Y → ℕ) (g : X → List Y) (xs : List X) → total f (flat_map g xs) ≡ total (λ x. total f (g x)) xs
total_flat f g [] = refl
total_flat f g (x ∷ xs) = total_append f (g x) (flat_map g xs) ∙ ap (λ n. total f (g x) + n) (total_flat f g xs)

pub total_map : {X Y : Type 0} (f : Y → ℕ) (g : X → Y) (xs : List X) → total f (map g xs) ≡ total (λ x. f (g x)) xs
total_map f g [] = refl
total_map f g (x ∷ xs) = ap (λ n. f (g x) + n) (total_map f g xs)

pub total_filter : {X : Type 0} (f : X → ℕ) (p : X → Bool) (xs : List X) → total f (filter p xs) ≡ total (λ x. cond (p x) (f x) 0) xs
total_filter f p [] = refl
total_filter f p (x ∷ xs) = by (p x) (total_filter f p xs)
  where
    by : (b : Bool) → total f (filter p xs) ≡ total (λ x. cond (p x) (f x) 0) xs → total f (if b then x ∷ filter p xs else filter p xs) ≡ cond b (f x) 0 + total (λ x. cond (p x) (f x) 0) xs
    by true later = ap (λ n. f x + n) later
    by false later = later ∙ zero_plus (total (λ x. cond (p x) (f x) 0) xs)

-- ---- elements of a list

-- the element is one of the list's

pub total_same : {X : Type 0} (f g : X → ℕ) (xs : List X) → ((x : X) → IsOne x xs → f x ≡ g x) → total f xs ≡ total g xs
total_same f g [] each = refl
total_same f g (x ∷ xs) each = let here = each x (inl refl) in let later = total_same f g xs (λ y is. each y (inr is)) in omega (arith, here, later)

pub total_none : {X : Type 0} (f : X → ℕ) (xs : List X) → ((x : X) → IsOne x xs → f x ≡ 0) → total f xs ≡ 0
total_none f [] each = refl
total_none f (x ∷ xs) each = let here = each x (inl refl) in let later = total_none f xs (λ y is. each y (inr is)) in omega (arith, here, later)

pub times_some : {X : Type 0} (p : X → Bool) (x : X) (xs : List X) → IsOne x xs → p x ≡ true → 1 ≤ times p xs
times_some p x [] is h = absurd is
times_some p x (y ∷ ys) (inl same) h = let one : one_if (p y) ≡ 1 = ap (λ z. one_if (p z)) same ∙ ap one_if h in omega (arith, one)
times_some p x (y ∷ ys) (inr later) h = let more = times_some p x ys later h in omega (arith, more)

-- where at most one passes, all that pass are one
pub only_one : {X : Type 0} (p : X → Bool) (x y : X) (xs : List X) → times p xs ≤ 1 → IsOne x xs → IsOne y xs → p x ≡ true → p y ≡ true → x ≡ y
only_one p x y [] few a b hx hy = absurd a
only_one p x y (z ∷ zs) few (inl a) (inl b) hx hy = sym a ∙ b
only_one p x y (z ∷ zs) few (inl a) (inr b) hx hy =
    let one : one_if (p z) ≡ 1 = ap (λ w. one_if (p w)) a ∙ ap one_if hx in let more = times_some p y zs b hy in absurd (omega (arith, few, one, more))
only_one p x y (z ∷ zs) few (inr a) (inl b) hx hy =
    let one : one_if (p z) ≡ 1 = ap (λ w. one_if (p w)) b ∙ ap one_if hy in let more = times_some p x zs a hx in absurd (omega (arith, few, one, more))
only_one p x y (z ∷ zs) few (inr a) (inr b) hx hy = only_one p x y zs (fewer few) a b hx hy
  where
    fewer : one_if (p z) + times p zs ≤ 1 → times p zs ≤ 1
    fewer h = omega (arith, h)

-- one passes where the number is not 0
pub found : {X : Type 0} (p : X → Bool) (xs : List X) → 1 ≤ times p xs → (x : X) × IsOne x xs × (p x ≡ true)
found p [] h = absurd (omega (arith, h))
found p (x ∷ xs) h = elim (cases_Bool (p x)) [
  | inl here ↦ (x, inl refl, here)
  | inr not_here ↦ let f = found p xs (left not_here) in (f.0, inr f.1, f.2)
]
  where
    left : p x ≡ false → 1 ≤ times p xs
    left fails = let none : one_if (p x) ≡ 0 = ap one_if fails in omega (arith, h, none)

-- ---- numbers in a row

pub one_of_numbers : (z w : ℤ) (n : ℕ) → IsOne w (numbers_from z n) → is_between z (z +ℤ pos n) w ≡ true
one_of_numbers z w zero is = absurd is
one_of_numbers z w (suc n) (inl same) = first z w n same
  where
    first : (z w : ℤ) (n : ℕ) → z ≡ w → is_between z (z +ℤ pos (suc n)) w ≡ true
    first z w n same = grind (arith, ints)
one_of_numbers z w (suc n) (inr later) = wider z w n (one_of_numbers (z +ℤ pos 1) w n later)
  where
    wider : (z w : ℤ) (n : ℕ) → is_between (z +ℤ pos 1) ((z +ℤ pos 1) +ℤ pos n) w ≡ true → is_between z (z +ℤ pos (suc n)) w ≡ true
    wider z w n h = grind (arith, ints)

pub times_numbers : (w z : ℤ) (n : ℕ) → times (λ x. int_eq x w) (numbers_from z n) ≡ one_if (is_between z (z +ℤ pos n) w)
times_numbers w z zero = ap one_if (none z w)
  where
    none : (z w : ℤ) → false ≡ is_between z (z +ℤ pos 0) w
    none z w = grind (arith, ints)
times_numbers w z (suc n) = ap (λ k. one_if (int_eq z w) + k) (times_numbers w (z +ℤ pos 1) n) ∙ step z w n
  where
    step : (z w : ℤ) (n : ℕ) → one_if (int_eq z w) + one_if (is_between (z +ℤ pos 1) ((z +ℤ pos 1) +ℤ pos n) w) ≡ one_if (is_between z (z +ℤ pos (suc n)) w)
    step z w n = grind (arith, ints)

-- ---- lists in another order

module _ {X : Type 0} (same : X → X → Bool) (decides : (x y : X) → (same x y ≡ true → x ≡ y) × (x ≡ y → same x y ≡ true)) where
  -- an element that is there, taken out
  record Apart (x : X) (xs : List X) : Type 0 where
    front : List X
    back : List X
    is : xs ≡ front ++ x ∷ back

  apart : (x : X) (xs : List X) → IsOne x xs → Apart x xs
  apart x [] is = absurd is
  apart x (y ∷ ys) (inl e) = record { front = []; back = ys; is = ap (λ z. z ∷ ys) e }
  apart x (y ∷ ys) (inr later) = let a = apart x ys later in record { front = y ∷ a.front; back = a.back; is = ap (λ zs. y ∷ zs) a.is }

  self : (x : X) → same x x ≡ true
  self x = (decides x x).1 refl

  pub in_another_order : (xs ys : List X) → ((x : X) → times (same x) xs ≡ times (same x) ys) → IsPermutation xs ys
  in_another_order [] [] each = IsPermutation-refl []
  in_another_order [] (y ∷ ys) each = absurd (none (each y) (self y))
    where
      none : 0 ≡ one_if (same y y) + times (same y) ys → same y y ≡ true → ⊥
      none e h = let one : one_if (same y y) ≡ 1 = ap one_if h in omega (arith, e, one)
  in_another_order (x ∷ xs) ys each =
      let f = found (same x) ys (some (each x) (self x)) in
      let at : f.0 ≡ x = sym ((decides x f.0).0 f.2) in
      let a = apart x ys (subst (λ (z : X). IsOne z ys) at f.1) in
      let rest = in_another_order xs (a.front ++ a.back) (λ z. left z a (each z)) in
      let whole = IsPermutation-trans (x ∷ xs) (x ∷ (a.front ++ a.back)) (a.front ++ x ∷ a.back) (IsPermutation-cons x xs (a.front ++ a.back) rest) (IsPermutation-sym (a.front ++ x ∷ a.back) (x ∷ (a.front ++ a.back)) (IsPermutation-middle a.front x a.back)) in
      rw a.is whole
    where
      some : one_if (same x x) + times (same x) xs ≡ times (same x) ys → same x x ≡ true → 1 ≤ times (same x) ys
      some e h = let one : one_if (same x x) ≡ 1 = ap one_if h in omega (arith, e, one)

      left : (z : X) (a : Apart x ys) → one_if (same z x) + times (same z) xs ≡ times (same z) ys → times (same z) xs ≡ times (same z) (a.front ++ a.back)
      left z a e =
          let whole = ap (times (same z)) a.is in
          let parts = total_append (λ w. one_if (same z w)) a.front (x ∷ a.back) in
          let others = total_append (λ w. one_if (same z w)) a.front a.back in
          omega (arith, e, whole, parts, others)
