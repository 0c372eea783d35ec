-- The low windows before one, row by row and in a row from left to right.
use Rattle.std.specs.Prelude.{◌≡◌, ℕ, ℤ, pos, Bool, ◌&&◌, ◌||◌, ◌==◌, List, nat_lt}
use Rattle.fill_base.specs.declared.rect.Rect.{Rect}
use Rattle.fill_area.specs.Grid.{Grid}
use Rattle.fill_region.specs.Squares.{covered}
use Rattle.fill_state.specs.Low.{low_by}

-- column `a` and row `b` come before another column and row: in a row below, or in the same row further left
abbrev pub is_before : ℕ → ℕ → ℕ → ℕ → Bool
is_before column row a b = nat_lt b row || (b == row && nat_lt a column)

-- the rectangles hold, each as a unit square, exactly the low ones of the windows before a column and a row
abbrev pub AreLowBefore : Grid → ℤ → List ℤ → ℕ → ℕ → List Rect → Type 0
AreLowBefore g least totals column row low = (a b : ℕ) → covered low (pos a) (pos b) ≡ (low_by g least totals a b && is_before column row a b)
