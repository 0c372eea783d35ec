-- The areas of the first windows of a grid, row by row.
use Rattle.std.specs.Prelude.{◌≡◌, ℕ, ◌/◌, ◌%◌, ◌<◌, ℤ, pos, Bool, List, length, get_or}
use Rattle.fill_area.specs.Grid.{Grid}
use Rattle.fill_area.specs.Density.{window_area}

-- the area of the window at place `k` of the list of all windows
abbrev pub area_at : (ℤ → ℤ → Bool) → Grid → ℕ → ℤ
area_at p g k = pos (window_area p g (k % g.across.count) (k / g.across.count))

-- the list has the areas of the first `n` windows
pub record AreFirst (p : ℤ → ℤ → Bool) (g : Grid) (n : ℕ) (areas : List ℤ) : Type 0 where
  pub count : length areas ≡ n
  pub each : (k : ℕ) (d : ℤ) → k < n → get_or areas k d ≡ area_at p g k
