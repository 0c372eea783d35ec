-- The tiles that are in.
use Rattle.std.specs.Prelude.{ℕ, Bool, false, List, get_or, map}
use Rattle.std.specs.List.{range_with_len}
use Rattle.fill_raster.specs.Bits.{has_bit}

-- a bit for each tile; no tile past the last bit is in
abbrev pub is_in : List Bool → ℕ → Bool
is_in bits tile = get_or bits tile false

-- so many first bits of some words of 64
abbrev pub bits_of : ℕ → List ℕ → List Bool
bits_of count words = map (has_bit words) (range_with_len 0 count)
