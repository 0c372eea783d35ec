-- Looking up a line among bands.
use Rattle.std.specs.Prelude.{ℕ, ◌<◌, ◌≤◌, ℤ, ◌≤ℤ◌, ◌<ℤ◌, List, length}
use Rattle.fill_bands.specs.Bands.{Band, next_bottom}

-- the bands before `n` begin at `y` or below, and the one at `n` above it
pub record IsFirstAbove (bs : List Band) (y : ℤ) (n : ℕ) : Type 0 where
  pub within : n ≤ length bs
  pub before : (k : ℕ) → k < n → next_bottom bs k ≤ℤ y
  pub after : n < length bs → y <ℤ next_bottom bs n
