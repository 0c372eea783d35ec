-- Eight-byte reals, on their 64 bits: a sign, an exponent of 16 in excess 64, and a fraction of 56
-- bits.
use Rattle.std.specs.Prelude.{◌≡◌, ℕ, ◌-◌, ◌*◌, ◌/◌, ◌%◌, ◌^◌, ◌==◌, ◌⊎◌, Bool, true, false, List}
use Rattle.std.specs.Int.{w64, from_be_bytes}

abbrev pub bits_of : List ℕ → ℕ
bits_of bytes = from_be_bytes w64 bytes

abbrev pub fraction : ℕ → ℕ
fraction bits = bits % 2 ^ 56

abbrev pub exponent : ℕ → ℕ
exponent bits = bits / 2 ^ 56 % 128

abbrev pub is_negative : ℕ → Bool
is_negative bits = bits / 2 ^ 63 == 1

-- Without its sign the value is fraction / 2 ^ 56 * 16 ^ (exponent - 64). It is n where the two
-- sides of that equation are equal times 2 ^ 56 * 16 ^ 64, which is 16 ^ 78.
abbrev pub IsMagnitude : ℕ → ℕ → Type 0
IsMagnitude bits n = fraction bits * 16 ^ exponent bits ≡ n * 16 ^ 78

-- the value is n, or -n with the sign; 0 has both signs
pub record HasValue (bits : ℕ) (negative : Bool) (n : ℕ) : Type 0 where
  pub magnitude : IsMagnitude bits n
  pub sign : (n ≡ 0) ⊎ (is_negative bits ≡ negative)

-- what k quarter turns come to counter-clockwise, clockwise ones counted as negative
abbrev pub turns_of : Bool → ℕ → ℕ
turns_of true k = (4 - k) % 4
turns_of false k = k % 4
