-- Tiles: blocks of places, columns by rows.
use Rattle.std.proofs.Common.{◌≡◌, ℕ, ◌+◌, ◌*◌, ◌≤◌, ◌<◌, arith, Fits, w32, w64, ℤ, ◌≤ℤ◌, ◌<ℤ◌, Bool, true, false, ◌&&◌, ◌↔◌, refl}
use Rattle.std.specs.Prelude.{IsTrue}
use Rattle.std.proofs.lemmas.Bool.{and_from, and_parts}
use Rattle.std.proofs.Math.Nat.{mul-le-mul, mul_comm}
use Rattle.std.proofs.lemmas.Nat.{mul-add-lt}
use Rattle.fill_base.specs.Coordinates.{lowest, highest}
use Rattle.fill_base.proofs.Signed.{read}
use Rattle.fill_raster.specs.Axes.{box_begin, box_end, extent, bands, band_of, IsAxis}
use Rattle.fill_raster.specs.Lattice.{Lattice, IsLattice, in_raster, places, tiles, tile_of}
use Rattle.fill_raster.specs.declared.axis.Axis.{Axis}
use Rattle.fill_raster.proofs.Ranges.{extent_bounded, on_in, on_within}
use Rattle.fill_raster.proofs.Reading.{box_begin_read, box_end_read, box_range, place_read}
use Rattle.fill_raster.proofs.Bands.{bands_few, band_below}

product_fits : (m n : ℕ) → m ≤ 2147483648 → n ≤ 2147483648 → Fits w64 (m * n)
product_fits m n a b = let h : m * n ≤ 2147483648 * 2147483648 = mul-le-mul a b in small (m * n) h
  where
    small : (k : ℕ) → k ≤ 2147483648 * 2147483648 → Fits w64 k
    small k h = omega (arith, h)

pub places_fit : (across up : Axis) (m n : ℕ) → IsAxis across → IsAxis up → m ≡ extent across → n ≡ extent up → Fits w64 (m * n)
places_fit across up m n ia iu m_is n_is = rw (m_is, n_is) (product_fits (extent across) (extent up) (extent_bounded across ia) (extent_bounded up iu))

-- ---- tests

pub both_hold : {P Q : Type 0} (a b : Bool) → (IsTrue a ↔ P) → (IsTrue b ↔ Q) → IsTrue (a && b) ↔ (P × Q)
both_hold a b p q = ((λ h. let parts = and_parts a b h in (p.0 parts.0, q.0 parts.1)), (λ h. and_from a b (p.1 h.0) (q.1 h.1)))

pub not_held : {P : Type 0} (b : Bool) → (IsTrue b ↔ P) → b ≡ false → ¬ P
not_held true p is h = absurd cc
not_held false p is h = absurd (let e : false ≡ true = p.1 h in cc)

-- the raster of these columns and rows
abbrev pub lattice : Axis → Axis → Lattice
lattice across up = record { across = across; up = up }

-- ---- boxes

-- the corners of a box that the code has found, in order and in range
pub record BoxCorners (r : Lattice) (i j left bottom right top : ℤ) : Type 0 where
  pub left_is : read left ≡ box_begin r.across i
  pub bottom_is : read bottom ≡ box_begin r.up j
  pub right_is : read right ≡ box_end r.across i
  pub top_is : read top ≡ box_end r.up j
  pub wide : read left <ℤ read right
  pub tall : read bottom <ℤ read top
  pub low_x : lowest ≤ℤ read left
  pub low_y : lowest ≤ℤ read bottom
  pub high_x : read right ≤ℤ highest
  pub high_y : read top ≤ℤ highest

pub box_corners : (r : Lattice) (i j left bottom right top : ℤ) → IsLattice r → in_raster r i j ≡ true
    → left ≡ box_begin r.across (read i) → bottom ≡ box_begin r.up (read j) → right ≡ box_end r.across (read i) → top ≡ box_end r.up (read j) → BoxCorners r i j left bottom right top
box_corners r i j left bottom right top is on l b rt tp =
    let across = (and_parts _ _ on).0 in let up = (and_parts _ _ on).1 in
    let l_is = box_begin_read r.across i left is.across across l in
    let b_is = box_begin_read r.up j bottom is.up up b in
    let r_is = box_end_read r.across i right is.across across rt in
    let t_is = box_end_read r.up j top is.up up tp in
    let x = box_range r.across i is.across across in
    let y = box_range r.up j is.up up in
    record {
      left_is = l_is;
      bottom_is = b_is;
      right_is = r_is;
      top_is = t_is;
      wide = rw (l_is, r_is) x.some;
      tall = rw (b_is, t_is) y.some;
      low_x = rw l_is x.least;
      low_y = rw b_is y.least;
      high_x = rw r_is x.most;
      high_y = rw t_is y.most;
    }

-- ---- the tile of a place

tile_below : (g c row column : ℕ) → row < g → column < c → row * c + column < g * c
tile_below g c row column r k = let h = mul-add-lt row c column g r k in let e = mul_comm g c in omega (arith, h, e)

-- there are no more tiles than places
pub tiles_few : (r : Lattice) → IsLattice r → tiles r ≤ 16777216
tiles_few r is =
    let columns : bands r.across ≤ extent r.across = bands_few (extent r.across) r.across.band is.across.band_is.least in
    let rows : bands r.up ≤ extent r.up = bands_few (extent r.up) r.up.band is.up.band_is.least in
    let product : bands r.up * bands r.across ≤ extent r.up * extent r.across = mul-le-mul rows columns in
    let turned = mul_comm (extent r.up) (extent r.across) in
    few (tiles r) (extent r.up * extent r.across) (places r) product turned is.few
  where
    few : (t m p : ℕ) → t ≤ m → m ≡ p → p ≤ 16777216 → t ≤ 16777216
    few t m p le e h = omega (arith, le, e, h)

pub tile_of_below : (r : Lattice) (i j : ℤ) → IsLattice r → in_raster r i j ≡ true → tile_of r i j < tiles r
tile_of_below r i j is on =
    tile_below (bands r.up) (bands r.across) (band_of r.up j) (band_of r.across i)
    (band_below r.up j is.up.band_is.least (on_in r.up j is.up.step_is.least (on_within r.up j (and_parts _ _ on).1)))
    (band_below r.across i is.across.band_is.least (on_in r.across i is.across.step_is.least (on_within r.across i (and_parts _ _ on).0)))

-- the tiles below the row of a place
pub row_fits : (r : Lattice) (i j : ℤ) (row columns : ℕ) → IsLattice r → in_raster r i j ≡ true → row ≡ band_of r.up (read j) → columns ≡ bands r.across → Fits w32 (row * columns)
row_fits r i j row columns is on row_is columns_is =
    let j_in = on_in r.up j is.up.step_is.least (on_within r.up j (and_parts _ _ on).1) in
    rw (row_is, columns_is, place_read r.up j is.up j_in) (small (band_of r.up j * bands r.across) (band_of r.across i) (tiles r) (tile_of_below r i j is on) (tiles_few r is))
  where
    small : (m n t : ℕ) → m + n < t → t ≤ 16777216 → Fits w32 m
    small m n t lt few = omega (arith, lt, few)

-- the tile of a place as the code reckons it
pub record TileReckoned (r : Lattice) (i j : ℤ) (row columns column : ℕ) : Type 0 where
  pub fits : Fits w32 (row * columns + column)
  pub tile : row * columns + column ≡ tile_of r i j
  pub index : row * columns + column < tiles r

pub tile_reckoned : (r : Lattice) (i j : ℤ) (row columns column : ℕ) → IsLattice r → in_raster r i j ≡ true
    → row ≡ band_of r.up (read j) → columns ≡ bands r.across → column ≡ band_of r.across (read i) → TileReckoned r i j row columns column
tile_reckoned r i j row columns column is on row_is columns_is column_is =
    let i_in = on_in r.across i is.across.step_is.least (on_within r.across i (and_parts _ _ on).0) in
    let j_in = on_in r.up j is.up.step_is.least (on_within r.up j (and_parts _ _ on).1) in
    let e : row * columns + column ≡ tile_of r i j = rw (row_is, columns_is, column_is, place_read r.across i is.across i_in, place_read r.up j is.up j_in) refl in
    let below : row * columns + column < tiles r = rw e (tile_of_below r i j is on) in
    let few = tiles_few r is in
    record { fits = whole (row * columns + column) (tiles r) below few; tile = e; index = below }
  where
    whole : (m t : ℕ) → m < t → t ≤ 16777216 → Fits w32 m
    whole m t lt few = omega (arith, lt, few)
