-- What of a set of squares each tile depends on.
use Rattle.std.specs.Prelude.{◌≡◌, ℕ, ◌<◌, ℤ, ◌&&◌, List, [], length, get_or}
use Rattle.fill_region.specs.Runs.{Sides, holds}
use Rattle.fill_raster.specs.Lattice.{Lattice, in_halo, tiles}
use Rattle.fill_job.specs.Plans.{PointSet}

-- the squares of the set in the bounding rectangle of the tile's boxes, grown by a distance: for metal the spacing, for existing fill the
-- fill spacing, for keep-outs none
abbrev pub IsPiece : Lattice → ℤ → PointSet → ℕ → List Sides → Type 0
IsPiece r d p tile piece = (x y : ℤ) → holds piece x y ≡ (p x y && in_halo r tile d x y)

-- the pieces of the first tiles
pub record AreFirstPieces (r : Lattice) (d : ℤ) (p : PointSet) (n : ℕ) (pieces : List (List Sides)) : Type 0 where
  pub count : length pieces ≡ n
  pub each : (tile : ℕ) → tile < n → IsPiece r d p tile (get_or pieces tile [])

-- those of all tiles
abbrev pub ArePieces : Lattice → ℤ → PointSet → List (List Sides) → Type 0
ArePieces r d p pieces = AreFirstPieces r d p (tiles r) pieces
