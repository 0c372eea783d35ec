-- Searches through pairs: what one finds, and when it finds nothing.
use Rattle.std.proofs.Common.{◌≡◌, ℕ, ◌<◌, ℤ, pos, ◌+ℤ◌, inl, inr, ◌⊎◌, Bool, true, false}
use Rattle.std.proofs.lemmas.Bool.{cases_Bool}
use Rattle.fill_base.specs.Counts.{span_len}
use Rattle.fill_job.specs.Searches.{some_below, some_pair, some_within}
use Rattle.fill_job.proofs.Searching.{some_below_finds, some_below_has}

-- a pair that a search finds
pub record Found (p : ℕ → ℕ → Bool) (m n : ℕ) : Type 0 where
  pub a : ℕ
  pub b : ℕ
  pub column : a < m
  pub row : b < n
  pub passes : p a b ≡ true

pub some_pair_finds : (p : ℕ → ℕ → Bool) (m n : ℕ) → some_pair p m n ≡ true → Found p m n
unfolding some_pair
some_pair_finds p m n h =
    let column = some_below_finds (λ a. some_below (λ b. p a b) n) m h in
    let row = some_below_finds (λ b. p column.0 b) n column.2 in
    record { a = column.0; b = row.0; column = column.1; row = row.1; passes = row.2 }

pub some_pair_has : (p : ℕ → ℕ → Bool) (m n a b : ℕ) → a < m → b < n → p a b ≡ true → some_pair p m n ≡ true
unfolding some_pair
some_pair_has p m n a b column row h = some_below_has (λ a. some_below (λ b. p a b) n) m a column (some_below_has (λ b. p a b) n b row h)

-- where neither of two tests finds a pair, nothing is found that one of them would pass
none_of_pairs : (p q r : ℕ → ℕ → Bool) (m n : ℕ) → ((a b : ℕ) → r a b ≡ true → (p a b ≡ true) ⊎ (q a b ≡ true)) → some_pair p m n ≡ false → some_pair q m n ≡ false → some_pair r m n ≡ false
none_of_pairs p q r m n either np nq = elim (cases_Bool (some_pair r m n)) [
  | inl h ↦ let f = some_pair_finds r m n h in elim (either f.a f.b f.passes) [
    | inl yes_p ↦ absurd (let e : false ≡ true = rw np at (some_pair_has p m n f.a f.b f.column f.row yes_p) in cc)
    | inr yes_q ↦ absurd (let e : false ≡ true = rw nq at (some_pair_has q m n f.a f.b f.column f.row yes_q) in cc)
  ]
  | inr h ↦ h
]

pub none_within : (p q r : ℤ → ℤ → Bool) (left bottom right top : ℤ) → ((x y : ℤ) → r x y ≡ true → (p x y ≡ true) ⊎ (q x y ≡ true))
    → some_within p left bottom right top ≡ false → some_within q left bottom right top ≡ false → some_within r left bottom right top ≡ false
unfolding some_within
none_within p q r left bottom right top either np nq =
    none_of_pairs (λ a b. p (left +ℤ pos a) (bottom +ℤ pos b)) (λ a b. q (left +ℤ pos a) (bottom +ℤ pos b)) (λ a b. r (left +ℤ pos a) (bottom +ℤ pos b)) (span_len left right) (span_len bottom top)
    (λ a b. either (left +ℤ pos a) (bottom +ℤ pos b)) np nq
