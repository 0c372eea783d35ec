-- The filled places of a raster, tile by tile.
use Rattle.std.specs.Prelude.{◌≡◌, ℕ, ◌<◌, ℤ, pos, ◌&&◌, ◌||◌, not, true, Bool, List, [], length, get_or}
use Rattle.fill_base.specs.Counts.{is_between}
use Rattle.fill_raster.specs.Axes.{first, past}
use Rattle.fill_raster.specs.Lattice.{Lattice, IsLattice, box_squares, KeepsPitch, in_raster, in_tile, tile_of, tiles}
use Rattle.fill_raster.specs.Marks.{Marked, in_block, is_marked}
use Rattle.fill_job.specs.Plans.{PointSet}
use Rattle.fill_job.specs.Searches.{some_within}
use Rattle.fill_core.specs.Boxes.{count_places}
use Rattle.fill_state.specs.declared.places.Places.{Places}

-- a raster with the marks of each of its tiles
pub record Filling : Type 0 where
  pub raster : Lattice
  pub marks : List Marked

-- the marks of a tile; there are none past the last one
abbrev pub marks_of : Filling → ℕ → Marked
marks_of f tile = get_or f.marks tile (record { block = record { left = pos 0; bottom = pos 0; right = pos 0; top = pos 0 }; bits = [] })

-- the place is on the raster, and marked in its tile
abbrev pub is_filled : Filling → ℤ → ℤ → Bool
is_filled f i j = in_raster f.raster i j && is_marked (marks_of f (tile_of f.raster i j)) i j

-- the place is in these columns and rows
abbrev pub in_places : Places → ℤ → ℤ → Bool
in_places p i j = is_between p.columns.start p.columns.end i && is_between p.rows.start p.rows.end j

-- the filled places but for some
abbrev pub left_by : Filling → Places → ℤ → ℤ → Bool
left_by f p i j = is_filled f i j && not (in_places p i j)

-- no boxes meet, and each tile has marks for its places
pub record IsFilling (f : Filling) : Type 0 where
  pub raster : IsLattice f.raster
  pub pitch : KeepsPitch f.raster (pos 0)
  pub tiles_are : length f.marks ≡ tiles f.raster
  pub blocks : (tile : ℕ) → tile < tiles f.raster → (i j : ℤ) → in_block (marks_of f tile).block i j ≡ in_tile f.raster tile i j

-- and so many places are filled
pub record IsCounted (f : Filling) (count : ℕ) : Type 0 where
  pub filling : IsFilling f
  pub count_is : count ≡ count_places f.raster (is_filled f)

-- the squares of the boxes of some places of the raster
abbrev pub boxes_of : Lattice → PointSet → PointSet
boxes_of r fill x y = some_within (λ i j. fill i j && box_squares r i j x y) (first r.across) (first r.up) (past r.across) (past r.up)

-- the squares that count of a design or lie in a box, and that no square does both
abbrev pub drawn_or_box : Lattice → PointSet → PointSet → PointSet
drawn_or_box r fill drawn x y = drawn x y || boxes_of r fill x y

abbrev pub KeepsClear : Lattice → PointSet → PointSet → Type 0
KeepsClear r fill drawn = (x y : ℤ) → drawn x y ≡ true → boxes_of r fill x y ≡ true → ⊥
