-- Some tiles, one after the other: those from one number on and before another.
use Rattle.std.specs.Prelude.{◌≡◌, ℕ, ◌+◌, ◌-◌, ◌<◌, ◌≤◌, ℤ, true, List, [], length, get_or}
use Rattle.fill_base.specs.Coordinates.{IsInRange}
use Rattle.fill_base.specs.declared.rect.Rect.{Rect}
use Rattle.fill_base.specs.Squares.{squares}
use Rattle.fill_region.specs.Runs.{Sides}
use Rattle.fill_raster.specs.Lattice.{Lattice, in_halo}
use Rattle.fill_job.specs.Plans.{PointSet}
use Rattle.fill_state.specs.Pieces.{IsPiece}

-- the rectangle holds what squares within the coordinates their halos have
abbrev pub HoldsHalos : Lattice → ℤ → ℕ → ℕ → Rect → Type 0
HoldsHalos r d from to rect = (tile : ℕ) → from ≤ tile → tile < to → (x y : ℤ) → IsInRange x y → in_halo r tile d x y ≡ true → squares rect x y ≡ true

-- the pieces of those tiles
pub record ArePiecesFrom (r : Lattice) (d : ℤ) (p : PointSet) (from to : ℕ) (pieces : List (List Sides)) : Type 0 where
  pub count : length pieces ≡ to - from
  pub each : (k : ℕ) → k < to - from → IsPiece r d p (from + k) (get_or pieces k [])
