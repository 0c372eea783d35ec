-- The bands of an axis up to a line.
use Rattle.std.specs.Prelude.{◌↔◌, ℕ, ◌<◌, ◌≤◌, ℤ, ◌≤ℤ◌, ◌<ℤ◌}
use Rattle.fill_raster.specs.Axes.{bands, band_begin, band_end}
use Rattle.fill_raster.specs.declared.axis.Axis.{Axis}

-- the first `n` bands are those whose first box begins below the line
pub record AreBegun (a : Axis) (line : ℤ) (n : ℕ) : Type 0 where
  pub few : n ≤ bands a
  pub begun : (g : ℕ) → g < bands a → (g < n) ↔ (band_begin a g <ℤ line)

-- the first `n` bands are those whose last box ends at the line or below it
pub record AreEnded (a : Axis) (line : ℤ) (n : ℕ) : Type 0 where
  pub few : n ≤ bands a
  pub ended : (g : ℕ) → g < bands a → (g < n) ↔ (band_end a g ≤ℤ line)
