-- Words, four-byte numbers and names, as the data of records has them.
use Rattle.std.specs.Prelude.{ℕ, zero, suc, ℤ, pos, negsuc, ◌≤ℤ◌, List, [], ◌∷◌, take, drop}
use Rattle.std.specs.Int.{w16, w32, from_be_bytes, cast_signed}
use Rattle.fill_base.specs.declared.place.Point.{Point}

-- two bytes, the more significant first
abbrev pub word_of : List ℕ → ℕ
word_of bytes = from_be_bytes w16 bytes

-- four bytes, the most significant first, in two's complement
abbrev pub number_of : List ℕ → ℤ
number_of bytes = cast_signed w32 (from_be_bytes w32 bytes)

-- a byte before what is left of the rest: a zero with nothing left behind it goes
abbrev pub before_trimmed : ℕ → List ℕ → List ℕ
before_trimmed zero [] = []
before_trimmed zero (c ∷ cs) = zero ∷ c ∷ cs
before_trimmed (suc b) rest = suc b ∷ rest

-- the bytes without the zeros at their end
abbrev pub trimmed : List ℕ → List ℕ
trimmed [] = []
trimmed (b ∷ bs) = before_trimmed b (trimmed bs)

-- four bytes of x, four bytes of y
abbrev pub point_of : List ℕ → Point
point_of bytes = record { x = number_of (take 4 bytes); y = number_of (drop 4 bytes) }

-- both numbers of the point are such as four bytes hold
pub record IsStored (p : Point) : Type 0 where
  pub left : negsuc 2147483647 ≤ℤ p.x
  pub right : p.x ≤ℤ pos 2147483647
  pub low : negsuc 2147483647 ≤ℤ p.y
  pub high : p.y ≤ℤ pos 2147483647
