-- Counts that differ by one point.
use Rattle.std.proofs.Common.{◌≡◌, ℕ, zero, suc, ◌+◌, ◌<◌, ℤ, pos, ◌+ℤ◌, ◌≤ℤ◌, ◌<ℤ◌, arith, ap, ◌∙◌, sym, refl, inl, inr, Bool, true, false, cond, ◌&&◌, ◌||◌}
use Rattle.std.specs.Ordering.{int_eq}
use Rattle.std.proofs.lemmas.Bool.{cases_eq, cases_lt}
use Rattle.std.proofs.lemmas.Bool.Decides.{Decides-int_eq}
use Rattle.std.proofs.lemmas.Int.{ints, clamps}
use Rattle.fill_base.specs.Counts.{sum_from, span_len, sum_between, count_between}
use Rattle.fill_base.specs.Squares.{area_between}
use Rattle.fill_base.proofs.Counting.{sum_from_same, count_between_same}

-- a sum in which one term is one more
sum_from_more : (f g : ℤ → ℕ) (lo : ℤ) (n k : ℕ) → k < n → ((m : ℕ) → m < n → (m ≡ k → ⊥) → f (lo +ℤ pos m) ≡ g (lo +ℤ pos m))
    → g (lo +ℤ pos k) ≡ f (lo +ℤ pos k) + 1 → sum_from g lo n ≡ sum_from f lo n + 1
unfolding sum_from
sum_from_more f g lo zero k lt each one = absurd (omega (arith, lt))
sum_from_more f g lo (suc n) k lt each one = elim (cases_eq n k) [
  | inl last ↦
      let rest : sum_from f lo n ≡ sum_from g lo n = sum_from_same f g lo n (λ m below. each m (omega (arith, below)) (λ e. omega (arith, below, e, last))) in
      let at : g (lo +ℤ pos n) ≡ f (lo +ℤ pos n) + 1 = rw last one in
      omega (arith, rest, at)
  | inr other ↦
      let rest : sum_from g lo n ≡ sum_from f lo n + 1 = sum_from_more f g lo n k (less n k lt other) (λ m below ne. each m (omega (arith, below)) ne) one in
      let at : f (lo +ℤ pos n) ≡ g (lo +ℤ pos n) = each n (omega arith) other in
      omega (arith, rest, at)
]
  where
    less : (n k : ℕ) → k < suc n → (n ≡ k → ⊥) → k < n
    less n k lt ne = elim (cases_lt k n) [ inl below ↦ below | inr above ↦ absurd (ne (omega (arith, lt, above))) ]

pub sum_more : (f g : ℤ → ℕ) (lo hi x : ℤ) → lo ≤ℤ x → x <ℤ hi → ((y : ℤ) → lo ≤ℤ y → y <ℤ hi → (y ≡ x → ⊥) → f y ≡ g y) → g x ≡ f x + 1 → sum_between g lo hi ≡ sum_between f lo hi + 1
sum_more f g lo hi x low high each one =
    let at : lo +ℤ pos (span_len lo x) ≡ x = omega (arith, ints, clamps) in
    sum_from_more f g lo (span_len lo hi) (span_len lo x) (omega (arith, ints, clamps))
    (λ m below ne. each (lo +ℤ pos m) (from lo m) (under lo hi m (ordered lo hi x low high) below) (λ e. ne (steps lo x m e)))
    (rw at one)
  where
    ordered : (lo hi x : ℤ) → lo ≤ℤ x → x <ℤ hi → lo ≤ℤ hi
    ordered lo hi x low high = omega (arith, ints, clamps)

    from : (lo : ℤ) (m : ℕ) → lo ≤ℤ (lo +ℤ pos m)
    from lo m = omega (arith, ints, clamps)

    under : (lo hi : ℤ) (m : ℕ) → lo ≤ℤ hi → m < span_len lo hi → (lo +ℤ pos m) <ℤ hi
    under lo hi m le below = omega (arith, ints, clamps)

    steps : (lo x : ℤ) (m : ℕ) → lo +ℤ pos m ≡ x → m ≡ span_len lo x
    steps lo x m e = omega (arith, ints, clamps, e)

int_eq_no : (x y : ℤ) → (x ≡ y → ⊥) → int_eq x y ≡ false
int_eq_no x y ne = no (int_eq x y) (λ e. ne ((Decides-int_eq x y).0 e))
  where
    no : (b : Bool) → (b ≡ true → ⊥) → b ≡ false
    no true h = absurd (h refl)
    no false h = refl

pub int_eq_yes : (x : ℤ) → int_eq x x ≡ true
int_eq_yes x = (Decides-int_eq x x).1 refl

pub and_no : (b : Bool) → b && false ≡ false
and_no true = refl
and_no false = refl

pub or_no : (b : Bool) → b || false ≡ b
or_no true = refl
or_no false = refl

-- a set with one point more has one more
pub area_more : (p q : ℤ → ℤ → Bool) (left bottom right top i j : ℤ) → left ≤ℤ i → i <ℤ right → bottom ≤ℤ j → j <ℤ top
    → ((x y : ℤ) → q x y ≡ p x y || (int_eq x i && int_eq y j)) → p i j ≡ false → area_between q left bottom right top ≡ area_between p left bottom right top + 1
area_more p q left bottom right top i j li ir bj jt point off =
    sum_more (λ y. count_between (λ x. p x y) left right) (λ y. count_between (λ x. q x y) left right) bottom top j bj jt
    (λ y low high ne. count_between_same (λ x. p x y) (λ x. q x y) left right (ordered left right i li ir) (λ x l h. sym (other_row x y ne)))
    (sum_more (λ x. cond (p x j) 1 0) (λ x. cond (q x j) 1 0) left right i li ir (λ x l h ne. ap (λ b. cond b 1 0) (sym (other_column x ne))) (rw (here, off) refl))
  where
    ordered : (lo hi x : ℤ) → lo ≤ℤ x → x <ℤ hi → lo ≤ℤ hi
    ordered lo hi x low high = omega (arith, ints, clamps)

    other_row : (x y : ℤ) → (y ≡ j → ⊥) → q x y ≡ p x y
    other_row x y ne = point x y ∙ rw (int_eq_no y j ne, and_no (int_eq x i)) (or_no (p x y))

    other_column : (x : ℤ) → (x ≡ i → ⊥) → q x j ≡ p x j
    other_column x ne = point x j ∙ rw (int_eq_no x i ne) (or_no (p x j))

    here : q i j ≡ true
    here = point i j ∙ rw (off, int_eq_yes i, int_eq_yes j) refl
