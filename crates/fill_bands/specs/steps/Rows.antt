-- Where a walk over rows stands among the bands.
use Rattle.std.specs.Prelude.{ℕ, ◌<◌, ◌≤◌, ℤ, ◌≤ℤ◌, ◌<ℤ◌, List, length}
use Rattle.std.specs.Int.RustNames.{FitsSigned}
use mir.Syntax.{w64}
use Rattle.fill_bands.specs.Bands.{Band, next_bottom, IsBanded}

-- below `top`, the bands before `n` begin at the line `from` or below, and the one at `n` above it
pub record IsAtBand (bs : List Band) (from top : ℤ) (n : ℕ) : Type 0 where
  pub region : IsBanded bs
  pub from_fits : FitsSigned w64 from
  pub top_fits : FitsSigned w64 top
  pub some : 1 ≤ n
  pub before : from <ℤ top → (k : ℕ) → k < n → k < length bs → next_bottom bs k ≤ℤ from
  pub after : from <ℤ top → n < length bs → from <ℤ next_bottom bs n
