-- The limits of lengths, in database units.
use Rattle.std.specs.Prelude.{ℤ, pos, ◌≤ℤ◌}

-- a side or a step: from 1 to 2^20
pub record IsLength (z : ℤ) : Type 0 where
  pub least : pos 1 ≤ℤ z
  pub most : z ≤ℤ pos 1048576

-- a spacing or a growth: from 0 to 2^20
pub record IsSpacing (s : ℤ) : Type 0 where
  pub least : pos 0 ≤ℤ s
  pub most : s ≤ℤ pos 1048576
