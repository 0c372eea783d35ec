-- The marks of the first tiles, while they are made.
use Rattle.std.specs.Prelude.{◌≡◌, ℕ, ◌<◌, ℤ, false, length}
use Rattle.fill_raster.specs.Lattice.{in_tile}
use Rattle.fill_raster.specs.Marks.{in_block, is_marked}
use Rattle.fill_state.specs.Filling.{Filling, marks_of}

-- so many tiles have marks for their places, and no place is marked
pub record AreNone (f : Filling) (count : ℕ) : Type 0 where
  pub count_is : length f.marks ≡ count
  pub blocks : (tile : ℕ) → tile < count → (i j : ℤ) → in_block (marks_of f tile).block i j ≡ in_tile f.raster tile i j
  pub none : (tile : ℕ) → tile < count → (i j : ℤ) → is_marked (marks_of f tile) i j ≡ false
