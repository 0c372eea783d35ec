-- Sums over whole numbers in a row, by which areas and lengths are counted.
use Rattle.std.specs.Int.{int_max}
use Rattle.std.specs.Prelude.{ℕ, zero, suc, ◌+◌, ℤ, pos, ◌+ℤ◌, ◌-ℤ◌, unsigned_abs, Bool, cond, ◌&&◌, int_le, int_lt, ◌≡◌, ◌≤ℤ◌, ◌<ℤ◌}

-- the sum of `f` at `n` numbers in a row from `lo` on
unfoldable pub sum_from : (ℤ → ℕ) → ℤ → ℕ → ℕ
sum_from f lo zero = 0
sum_from f lo (suc n) = sum_from f lo n + f (lo +ℤ pos n)

-- how many whole numbers lie from `lo` on and below `hi`: none where `hi` is below `lo`
abbrev pub span_len : ℤ → ℤ → ℕ
span_len lo hi = unsigned_abs (int_max lo hi -ℤ lo)

-- the sum of `f` at the numbers from `lo` on and below `hi`
abbrev pub sum_between : (ℤ → ℕ) → ℤ → ℤ → ℕ
sum_between f lo hi = sum_from f lo (span_len lo hi)

-- how many numbers from `lo` on and below `hi` pass the test
abbrev pub count_between : (ℤ → Bool) → ℤ → ℤ → ℕ
count_between p lo hi = sum_between (λ x. cond (p x) 1 0) lo hi

-- `lo ≤ x < hi`
abbrev pub is_between : ℤ → ℤ → ℤ → Bool
is_between lo hi x = int_le lo x && int_lt x hi

-- the numbers from `lo` to `hi` are those that two ranges have in common
pub record IsCommonPart (a b c d lo hi : ℤ) : Type 0 where
  pub ordered : lo <ℤ hi
  pub begins : a ≤ℤ lo
  pub ends : hi ≤ℤ b
  pub same : (x : ℤ) → is_between lo hi x ≡ is_between a b x && is_between c d x
