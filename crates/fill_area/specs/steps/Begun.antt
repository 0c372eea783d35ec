-- How many spans of an axis begin below a number.
use Rattle.std.specs.Prelude.{ℕ, ◌≤◌, ◌<◌, ℤ, pos, ◌+ℤ◌, ◌-ℤ◌, ◌≤ℤ◌, ◌<ℤ◌}
use Rattle.fill_base.specs.Coordinates.{lowest, highest}
use Rattle.fill_area.specs.declared.axis.Axis.{Axis}
use Rattle.fill_area.specs.Axes.{axis_begin}

-- a number that may stand beside the coordinates by a window's length
pub record IsLimit (z : ℤ) : Type 0 where
  pub least : (lowest -ℤ pos 1048576) ≤ℤ z
  pub most : z ≤ℤ (highest +ℤ pos 1)

-- the first `n` spans are those that begin below the limit
pub record IsBegun (axis : Axis) (limit : ℤ) (n : ℕ) : Type 0 where
  pub few : n ≤ axis.count
  pub begun : (a : ℕ) → a < n → axis_begin axis a <ℤ limit
  pub later : (a : ℕ) → a < axis.count → n ≤ a → limit ≤ℤ axis_begin axis a
