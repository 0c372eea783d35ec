-- Searches through finite ranges.
use Rattle.std.proofs.Common.{◌≡◌, refl, ap, ◌∙◌, ℕ, zero, suc, ◌<◌, ℤ, pos, ◌+ℤ◌, ◌≤ℤ◌, ◌<ℤ◌, arith, inl, inr, Bool, true, false, ◌||◌}
use Rattle.std.proofs.lemmas.Bool.{cases_Bool}
use Rattle.std.proofs.lemmas.Int.{ints, clamps}
use Rattle.fill_base.specs.Counts.{span_len}
use Rattle.fill_job.specs.Searches.{some_below, some_pair, some_within}

pub some_below_same : (p q : ℕ → Bool) (n : ℕ) → ((k : ℕ) → k < n → p k ≡ q k) → some_below p n ≡ some_below q n
unfolding some_below
some_below_same p q zero each = refl
some_below_same p q (suc n) each = ap (λ b. b || some_below p n) (each n (omega arith)) ∙ ap (λ b. q n || b) (some_below_same p q n (λ k lt. each k (omega arith)))

pub some_pair_same : (p q : ℕ → ℕ → Bool) (m n : ℕ) → ((a b : ℕ) → a < m → b < n → p a b ≡ q a b) → some_pair p m n ≡ some_pair q m n
unfolding some_pair
some_pair_same p q m n each = some_below_same (λ a. some_below (λ b. p a b) n) (λ a. some_below (λ b. q a b) n) m (λ a below. some_below_same (λ b. p a b) (λ b. q a b) n (λ b lt. each a b below lt))

pub step_within : (lo hi : ℤ) (n : ℕ) → lo ≤ℤ hi → n < span_len lo hi → (lo ≤ℤ (lo +ℤ pos n)) × ((lo +ℤ pos n) <ℤ hi)
step_within lo hi n ordered lt = (omega (arith, ints, clamps), omega (arith, ints, clamps))

pub some_within_same : (p q : ℤ → ℤ → Bool) (left bottom right top : ℤ) → left ≤ℤ right → bottom ≤ℤ top
    → ((x y : ℤ) → left ≤ℤ x → x <ℤ right → bottom ≤ℤ y → y <ℤ top → p x y ≡ q x y) → some_within p left bottom right top ≡ some_within q left bottom right top
unfolding some_within
some_within_same p q left bottom right top wide tall each = some_pair_same (λ a b. p (left +ℤ pos a) (bottom +ℤ pos b)) (λ a b. q (left +ℤ pos a) (bottom +ℤ pos b)) (span_len left right) (span_len bottom top)
    (λ a b low high.
    let x = step_within left right a wide low in
    let y = step_within bottom top b tall high in
    each (left +ℤ pos a) (bottom +ℤ pos b) x.0 x.1 y.0 y.1)

-- ---- what a search finds

pub some_below_finds : (p : ℕ → Bool) (n : ℕ) → some_below p n ≡ true → (k : ℕ) × (k < n) × (p k ≡ true)
unfolding some_below
some_below_finds p zero h = absurd (let e : false ≡ true = h in cc)
some_below_finds p (suc n) h = elim (cases_Bool (p n)) [
  | inl holds ↦ (n, omega arith, holds)
  | inr fails ↦ let e : some_below p n ≡ true = rw fails at h in let found = some_below_finds p n e in (found.0, later found.0 n found.1, found.2)
]
  where
    later : (k n : ℕ) → k < n → k < suc n
    later k n lt = omega arith

pub some_below_has : (p : ℕ → Bool) (n k : ℕ) → k < n → p k ≡ true → some_below p n ≡ true
unfolding some_below
some_below_has p zero k lt holds = absurd (omega arith)
some_below_has p (suc n) k lt holds = elim (cases_Bool (p n)) [
  | inl here ↦ rw here refl
  | inr fails ↦ rw fails (some_below_has p n k (before p n k lt holds fails) holds)
]
  where
    before : (p : ℕ → Bool) (n k : ℕ) → k < suc n → p k ≡ true → p n ≡ false → k < n
    before p n k lt holds fails = elim (Rattle.std.proofs.lemmas.Bool.cases_lt k n) [
      | inl less ↦ less
      | inr ge ↦ absurd (let e : k ≡ n = omega arith in let f : p n ≡ true = rw e at holds in cc)
    ]

-- a test that nothing passes finds nothing
pub none_passes : (p : ℤ → ℤ → Bool) (left bottom right top : ℤ) → ((x y : ℤ) → p x y ≡ false) → some_within p left bottom right top ≡ false
unfolding some_within some_pair
none_passes p left bottom right top each = elim (cases_Bool (some_below (λ a. some_below (λ b. p (left +ℤ pos a) (bottom +ℤ pos b)) (span_len bottom top)) (span_len left right))) [
  | inl h ↦
      let column = some_below_finds (λ a. some_below (λ b. p (left +ℤ pos a) (bottom +ℤ pos b)) (span_len bottom top)) (span_len left right) h in
      let row = some_below_finds (λ b. p (left +ℤ pos column.0) (bottom +ℤ pos b)) (span_len bottom top) column.2 in
      absurd (let e : false ≡ true = rw (each (left +ℤ pos column.0) (bottom +ℤ pos row.0)) at row.2 in cc)
  | inr h ↦ h
]
