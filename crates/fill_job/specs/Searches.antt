-- Whether some number, pair or square of a finite range passes a test.
use Rattle.std.specs.Prelude.{ℕ, zero, suc, ℤ, pos, ◌+ℤ◌, Bool, false, ◌||◌}
use Rattle.fill_base.specs.Counts.{span_len}

-- some number below `n`
unfoldable pub some_below : (ℕ → Bool) → ℕ → Bool
some_below p zero = false
some_below p (suc n) = p n || some_below p n

-- some pair, the first number below `m` and the second below `n`
unfoldable pub some_pair : (ℕ → ℕ → Bool) → ℕ → ℕ → Bool
some_pair p m n = some_below (λ a. some_below (λ b. p a b) n) m

-- some square between these edges, the left at most the right and the bottom at most the top
unfoldable pub some_within : (ℤ → ℤ → Bool) → ℤ → ℤ → ℤ → ℤ → Bool
some_within p left bottom right top = some_pair (λ a b. p (left +ℤ pos a) (bottom +ℤ pos b)) (span_len left right) (span_len bottom top)
