-- A set of whole numbers, as the rising list of its edges: it begins at the first edge, ends at the
-- second, begins again at the third, and so on.
use Rattle.std.specs.Prelude.{◌≡◌, ℕ, ◌%◌, ◌==◌, ℤ, pos, negsuc, ◌<ℤ◌, Bool, false, cond, not, int_le, List, [], ◌∷◌, length, get_or}

-- the number `x` is in the set: an odd number of edges lies at `x` or below
abbrev pub inside : List ℤ → ℤ → Bool
inside [] x = false
inside (e ∷ es) x = cond (int_le e x) (not (inside es x)) (inside es x)

-- the numbers rise from above `lo` to below `hi`
abbrev pub Chain : ℤ → List ℤ → ℤ → Type 0
Chain lo [] hi = lo <ℤ hi
Chain lo (e ∷ es) hi = (lo <ℤ e) × Chain e es hi

-- the number below every coordinate, -2^30 - 1
abbrev pub floor : ℤ
floor = negsuc 1073741824

-- the number above every coordinate, 2^30 + 1
abbrev pub ceiling : ℤ
ceiling = pos 1073741825

abbrev pub odd : ℕ → Bool
odd n = n % 2 == 1

-- the one way to write a set: rising coordinates, as many beginnings as ends
pub record IsCanonical (es : List ℤ) : Type 0 where
  pub rising : Chain floor es ceiling
  pub even : odd (length es) ≡ false

-- the edge at `k`, or the ceiling past the last one
abbrev pub next_edge : List ℤ → ℕ → ℤ
next_edge es k = get_or es k ceiling
