-- Each row is in one part.
use Rattle.std.proofs.Common.{◌≡◌, refl, ap, ℕ, zero, suc, ◌+◌, ◌*◌, ◌/◌, ◌<◌, ◌≤◌, arith, inl, inr, true, not}
use Rattle.std.specs.Prelude.{nat_lt}
use Rattle.std.proofs.lemmas.Bool.{and_from, and_parts, cases_lt}
use Rattle.std.proofs.lemmas.Bool.Decides.{nat_tests}
use Rattle.std.proofs.lemmas.Nat.{le-div}
use Rattle.std.proofs.Math.Nat.{div-mul-le_self, mul-div_cancel_left, mul-le-mul}
use Rattle.fill_parts.specs.Cuts.{Part, cut, first_row, past_row, has_row}
use Rattle.fill_parts.specs.Laws.{EachRowIsInOnePart, PartsFollow, part}

le_same : (n : ℕ) → n ≤ n
le_same n = omega arith

pub cut_le : (rows count k l : ℕ) → 0 < count → k ≤ l → cut rows count k ≤ cut rows count l
cut_le rows count k l some le =
    let self = div-mul-le_self (k * rows) count in
    let more : k * rows ≤ l * rows = mul-le-mul le (le_same rows) in
    le-div (k * rows / count) (l * rows) count some (both (k * rows / count * count) (k * rows) (l * rows) self more)
  where
    both : (a b c : ℕ) → a ≤ b → b ≤ c → a ≤ c
    both a b c h g = omega (arith, h, g)

pub cut_begins : (rows count : ℕ) → 0 < count → cut rows count 0 ≡ 0
cut_begins rows count some =
    nothing (cut rows count 0) count rows some (div-mul-le_self (0 * rows) count)
  where
    nothing : (q count rows : ℕ) → 0 < count → q * count ≤ 0 * rows → q ≡ 0
    nothing zero count rows some h = refl
    nothing (suc q) count rows some h = absurd (let e : suc q * count ≡ count + q * count = omega arith in omega (arith, e, h, some))

pub cut_ends : (rows count : ℕ) → 0 < count → cut rows count count ≡ rows
cut_ends rows count some = mul-div_cancel_left rows some

pub is_cut : PartsFollow
is_cut rows count some = record { begins = cut_begins rows count some; follow = λ k l. cut_le rows count k l some; ends = cut_ends rows count some }

-- ---- the part of a row

pub record IsRowOf (k : Part) (rows row : ℕ) : Type 0 where
  pub low : first_row k rows ≤ row
  pub high : row < past_row k rows

not_below : (a b : ℕ) → b ≤ a → not (nat_lt a b) ≡ true
not_below a b h = grind (arith, nat_tests)

below_is : (a b : ℕ) → a < b → nat_lt a b ≡ true
below_is a b h = grind (arith, nat_tests)

not_below_is : (a b : ℕ) → not (nat_lt a b) ≡ true → b ≤ a
not_below_is a b h = grind (arith, nat_tests)

is_below : (a b : ℕ) → nat_lt a b ≡ true → a < b
is_below a b h = grind (arith, nat_tests)

pub row_of_is : (k : Part) (rows row : ℕ) → has_row k rows row ≡ true → IsRowOf k rows row
row_of_is k rows row h = let parts = and_parts _ _ h in record { low = not_below_is row (first_row k rows) parts.0; high = is_below row (past_row k rows) parts.1 }

pub is_row_of : (k : Part) (rows row : ℕ) → IsRowOf k rows row → has_row k rows row ≡ true
is_row_of k rows row is = and_from _ _ (not_below row (first_row k rows) is.low) (below_is row (past_row k rows) is.high)

-- a number between the first and the last of some that rise lies between two neighbours
between : (f : ℕ → ℕ) (n row : ℕ) → f 0 ≤ row → row < f n → (k : ℕ) × (k < n) × (f k ≤ row) × (row < f (k + 1))
between f zero row low high = absurd (omega (arith, low, high))
between f (suc n) row low high = elim (cases_lt row (f n)) [
  | inl less ↦ let rest = between f n row low less in (rest.0, later rest.0 n rest.1, rest.2, rest.3)
  | inr ge ↦ (n, omega arith, ge, last (f (suc n)) (f (n + 1)) (ap f (more n)) high)
]
  where
    later : (k n : ℕ) → k < n → k < suc n
    later k n lt = omega (arith, lt)

    more : (n : ℕ) → suc n ≡ n + 1
    more n = omega arith

    last : (a b : ℕ) → a ≡ b → row < a → row < b
    last a b e h = omega (arith, e, h)

-- parts that share a row are one
pub same_part : (rows count k l row : ℕ) → 0 < count → IsRowOf (part k count) rows row → IsRowOf (part l count) rows row → k ≡ l
same_part rows count k l row some p q = elim (cases_lt k l) [
  | inl less ↦ absurd (beyond k l row (cut_le rows count (k + 1) l some (up k l less)) p.high q.low)
  | inr ge ↦ elim (cases_lt l k) [
    | inl less ↦ absurd (beyond l k row (cut_le rows count (l + 1) k some (up l k less)) q.high p.low)
    | inr le ↦ both k l ge le
  ]
]
  where
    up : (k l : ℕ) → k < l → k + 1 ≤ l
    up k l lt = omega (arith, lt)

    beyond : (k l row : ℕ) → cut rows count (k + 1) ≤ cut rows count l → row < cut rows count (k + 1) → cut rows count l ≤ row → ⊥
    beyond k l row h high low = omega (arith, h, high, low)

    both : (k l : ℕ) → l ≤ k → k ≤ l → k ≡ l
    both k l h g = omega (arith, h, g)

pub one_part : EachRowIsInOnePart
one_part rows count row some lt =
    let low : cut rows count 0 ≤ row = rw (cut_begins rows count some) (none row) in
    let high : row < cut rows count count = rw (cut_ends rows count some) lt in
    let found = between (cut rows count) count row low high in
    let own : IsRowOf (part found.0 count) rows row = record { low = found.2; high = found.3 } in
    record { number = found.0; below = found.1; has = is_row_of (part found.0 count) rows row own; only = λ k h. same_part rows count k found.0 row some (row_of_is (part k count) rows row h) own }
  where
    none : (n : ℕ) → 0 ≤ n
    none n = omega arith
