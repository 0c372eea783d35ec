-- What holds of every raster.
use Rattle.std.specs.Prelude.{◌≡◌, ◌⊎◌, ℕ, ◌%◌, ◌/◌, ◌<◌, ℤ, ◌+ℤ◌, ◌≤ℤ◌, true, ◌&&◌}
use Rattle.fill_base.specs.Counts.{is_between}
use Rattle.fill_base.specs.Squares.{area_between}
use Rattle.fill_raster.specs.Axes.{box_begin, box_end, first, past, bands, band_first, band_past}
use Rattle.fill_raster.specs.Lattice.{Lattice, IsLattice, KeepsPitch, in_raster, in_tile, places, tiles, tile_of, tile_left, tile_bottom, tile_right, tile_top}
use Rattle.fill_raster.specs.declared.axis.Axis.{Axis}

-- the places are those of a range of columns and a range of rows
abbrev pub PlacesAreARange : Type 0
PlacesAreARange = (r : Lattice) → IsLattice r → (i j : ℤ) → in_raster r i j ≡ is_between (first r.across) (past r.across) i && is_between (first r.up) (past r.up) j

-- and so many as their product says
abbrev pub PlacesAreCounted : Type 0
PlacesAreCounted = (r : Lattice) → IsLattice r → area_between (in_raster r) (first r.across) (first r.up) (past r.across) (past r.up) ≡ places r

-- the tile of a place is one of the raster's
abbrev pub EachPlaceHasATile : Type 0
EachPlaceHasATile = (r : Lattice) → IsLattice r → (i j : ℤ) → in_raster r i j ≡ true → tile_of r i j < tiles r

-- the places of a tile are those of a range of columns and a range of rows
abbrev pub TilesAreBlocks : Type 0
TilesAreBlocks = (r : Lattice) → IsLattice r → (t : ℕ) → t < tiles r → (i j : ℤ)
    → in_tile r t i j ≡ is_between (band_first r.across (t % bands r.across)) (band_past r.across (t % bands r.across)) i && is_between (band_first r.up (t / bands r.across)) (band_past r.up (t / bands r.across)) j

-- the box of a place lies between the edges of a tile
pub record IsBounded (r : Lattice) (t : ℕ) (i j : ℤ) : Type 0 where
  pub left : tile_left r t ≤ℤ box_begin r.across i
  pub bottom : tile_bottom r t ≤ℤ box_begin r.up j
  pub right : box_end r.across i ≤ℤ tile_right r t
  pub top : box_end r.up j ≤ℤ tile_top r t

abbrev pub TileEdgesBoundItsBoxes : Type 0
TileEdgesBoundItsBoxes = (r : Lattice) → IsLattice r → (t : ℕ) → t < tiles r → (i j : ℤ) → in_tile r t i j ≡ true → IsBounded r t i j

-- places of a tile whose boxes reach its edges: (i, j) the left and the lower one, (k, l) the right and the upper one
pub record AreReached (r : Lattice) (t : ℕ) : Type 0 where
  pub i : ℤ
  pub j : ℤ
  pub k : ℤ
  pub l : ℤ
  pub first_in : in_tile r t i j ≡ true
  pub last_in : in_tile r t k l ≡ true
  pub left : box_begin r.across i ≡ tile_left r t
  pub bottom : box_begin r.up j ≡ tile_bottom r t
  pub right : box_end r.across k ≡ tile_right r t
  pub top : box_end r.up l ≡ tile_top r t

abbrev pub TileEdgesAreReached : Type 0
TileEdgesAreReached = (r : Lattice) → IsLattice r → (t : ℕ) → t < tiles r → AreReached r t

-- the gap between the boxes of two places along an axis is at least the spacing
abbrev pub KeepsGap : Axis → ℤ → ℤ → ℤ → Type 0
KeepsGap a spacing i k = ((box_end a i +ℤ spacing) ≤ℤ box_begin a k) ⊎ ((box_end a k +ℤ spacing) ≤ℤ box_begin a i)

-- the boxes of two places keep the spacing in x or in y
abbrev pub BoxesKeepTheSpacing : Type 0
BoxesKeepTheSpacing = (r : Lattice) (spacing : ℤ) → IsLattice r → KeepsPitch r spacing → (i j k l : ℤ) → ¬ ((i ≡ k) × (j ≡ l)) → KeepsGap r.across spacing i k ⊎ KeepsGap r.up spacing j l
