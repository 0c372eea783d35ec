-- The set of places that marks make.
use Rattle.std.specs.Prelude.{◌≡◌, ℕ, ℤ, List, length, slice_get, Some}
use Rattle.std.specs.List.{list_any}
use Rattle.std.specs.Borrow.{Bor}
use Rattle.fill_raster.specs.Lattice.{Lattice, in_tile, tiles}
use Rattle.fill_raster.specs.Marks.{Marked, in_block, is_marked}
pub use Rattle.fill_stacks.specs.Places.{PlaceSet}

-- what some marks mark
abbrev pub marked_by : List (Bor Marked) → PlaceSet
marked_by marks i j = list_any (λ m. is_marked m.now i j) marks

-- the marks of each tile of a raster, in the order of the tiles
pub record AreOfTiles (r : Lattice) (marks : List (Bor Marked)) : Type 0 where
  pub count : length marks ≡ tiles r
  pub places : (t : ℕ) (m : Bor Marked) → slice_get marks t ≡ Some m → (i j : ℤ) → in_block m.now.block i j ≡ in_tile r t i j
