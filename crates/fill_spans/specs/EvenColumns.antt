-- Columns of one width at even steps, and the numbers that are counted for them.
use Rattle.std.specs.Prelude.{ℕ, ◌<◌, ◌^◌, ℤ, pos, ◌+ℤ◌, ◌*ℤ◌, ◌≤ℤ◌, List, length, get_or}

-- where column `a` begins
abbrev pub column_left : ℤ → ℤ → ℕ → ℤ
column_left first step a = first +ℤ (pos a *ℤ step)

-- where column `a` ends
abbrev pub column_right : ℤ → ℤ → ℤ → ℕ → ℤ
column_right first step width a = column_left first step a +ℤ width

-- each number is from 0 to 2^61, so that another product of two sides can be added
abbrev pub AreSums : List ℤ → Type 0
AreSums sums = (a : ℕ) (d : ℤ) → a < length sums → (pos 0 ≤ℤ get_or sums a d) × (get_or sums a d ≤ℤ pos (2 ^ 61))
