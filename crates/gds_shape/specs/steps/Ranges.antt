-- Ranges of numbers.
use Rattle.std.specs.Prelude.{ℤ, pos, negsuc, ◌≤ℤ◌}

-- a number of four bytes, or the absolute value of one
pub record IsStretch (z : ℤ) : Type 0 where
  pub least : negsuc 2147483647 ≤ℤ z
  pub most : z ≤ℤ pos 2147483648
