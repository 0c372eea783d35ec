-- Bits in words of 64: bit `k` is bit `k % 64` of word `k / 64`.
use Rattle.std.specs.Prelude.{ℕ, ◌/◌, ◌%◌, Bool, ◌==◌, List, get_or}
use Rattle.std.specs.Int.{bit_at}

abbrev pub has_bit : List ℕ → ℕ → Bool
has_bit words k = bit_at (get_or words (k / 64) 0) (k % 64) == 1
