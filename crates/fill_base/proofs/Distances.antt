-- How far two numbers lie apart: the length of the range from the lesser to the greater one.
use Rattle.std.proofs.Common.{◌≡◌, ℕ, ℤ, ◌-ℤ◌, ◌≤ℤ◌, arith}
use Rattle.std.specs.Prelude.{unsigned_abs}
use Rattle.std.proofs.lemmas.Int.{ints, clamps}
use Rattle.fill_base.specs.Counts.{span_len}

abbrev pub distance : ℤ → ℤ → ℕ
distance lo hi = unsigned_abs (hi -ℤ lo)

pub distance_is : (lo hi : ℤ) → lo ≤ℤ hi → distance lo hi ≡ span_len lo hi
distance_is lo hi ordered = omega (arith, ints, clamps)
