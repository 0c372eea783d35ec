-- A set of unit squares as bands: a band begins at its bottom, lasts to the next band's bottom, and
-- has one row, the list of edges of the squares in each of its lines.
use Rattle.std.specs.Prelude.{◌≡◌, ◌≢◌, ℕ, zero, suc, ℤ, ◌<ℤ◌, Bool, cond, int_le, List, [], ◌∷◌}
use Rattle.fill_spans.specs.Spans.{inside, floor, ceiling, IsCanonical}

-- a bottom and its row
abbrev pub Band : Type 0
Band = ℤ × List ℤ

-- the row of the line at `y`, where `below` is the row under the first band
abbrev pub row_from : List ℤ → List Band → ℤ → List ℤ
row_from below [] y = below
row_from below (b ∷ bs) y = cond (int_le b.0 y) (row_from b.1 bs y) below

-- the square (x, y) is in the set
abbrev pub holds : List Band → ℤ → ℤ → Bool
holds bs x y = inside (row_from [] bs y) x

-- the row of the last band
abbrev pub last_row : List ℤ → List Band → List ℤ
last_row below [] = below
last_row below (b ∷ bs) = last_row b.1 bs

-- the bottom of the band at `k`, or `top` past the last one
abbrev pub bottom_or : ℤ → List Band → ℕ → ℤ
bottom_or top [] k = top
bottom_or top (b ∷ bs) zero = b.0
bottom_or top (b ∷ bs) (suc k) = bottom_or top bs k

abbrev pub next_bottom : List Band → ℕ → ℤ
next_bottom bs k = bottom_or ceiling bs k

-- bottoms rise from above `lo` to below `hi`, rows are canonical, and neighbouring rows differ
abbrev pub AreBands : ℤ → List ℤ → List Band → ℤ → Type 0
AreBands lo below [] hi = lo <ℤ hi
AreBands lo below (b ∷ bs) hi = (lo <ℤ b.0) × (IsCanonical b.1 × ((b.1 ≢ below) × AreBands b.0 b.1 bs hi))

-- the one way to write a set of squares
pub record IsBanded (bs : List Band) : Type 0 where
  pub bands : AreBands floor [] bs ceiling
  pub closed : last_row [] bs ≡ []
