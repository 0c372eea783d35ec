-- The places of a tile are a block: a range of columns by a range of rows.
use Rattle.std.proofs.Common.{◌≡◌, ℕ, zero, suc, ◌*◌, ◌/◌, ◌%◌, ◌≤◌, ◌<◌, ℤ, pos, negsuc, ◌+ℤ◌, ◌-ℤ◌, ◌≤ℤ◌, ◌<ℤ◌, arith, ap, ◌∙◌, sym, refl, true, ◌&&◌}
use Rattle.std.proofs.lemmas.Bool.{and_from, and_parts, eq-eqb, eqb-true}
use Rattle.std.proofs.lemmas.Nat.{div-add-mod', div-mul-add, mod-mul-add, mod_below, div_below}
use Rattle.std.specs.Int.{int_max, int_min}
use Rattle.std.proofs.Math.Nat.{mul-le-mul, mul_comm}
use Rattle.std.proofs.lemmas.Int.{ints, clamps}
use Rattle.fill_base.specs.Coordinates.{lowest, highest, IsInRange}
use Rattle.fill_base.specs.Counts.{is_between, span_len}
use Rattle.fill_base.specs.Limits.{IsSpacing}
use Rattle.fill_base.proofs.Signed.{read}
use Rattle.fill_base.proofs.Between.{is_between_true, is_between_bounds}
use Rattle.fill_raster.specs.Axes.{bands, halo_begin, halo_end, extent, first, past, band_of, band_first, band_past, IsAxis}
use Rattle.fill_raster.specs.Lattice.{Lattice, IsLattice, in_tile, in_halo, tiles, tile_of, tile_left, tile_right, tile_bottom, tile_top}
use Rattle.fill_raster.specs.declared.axis.Axis.{Axis}
use Rattle.fill_raster.specs.Marks.{IsBlock, in_block}
use Rattle.fill_raster.specs.declared.block.Block.{Block}
use Rattle.fill_raster.proofs.Bands.{first_in, IsInBand, of_band, band_in, band_of_in, band_below, first_before_last}
use Rattle.fill_raster.proofs.Halos.{HaloRange, halo_range, halo_between, halo_begin_read, halo_end_read}
use Rattle.fill_raster.proofs.Ranges.{both, in_on, on_in, on_within, within_on, first_bounded, past_bounded}
use Rattle.fill_raster.proofs.Reading.{first_place_read, past_place_read, spacing_read}

-- a tile is a column and a row of tiles
pub record IsTile (r : Lattice) (t column row : ℕ) : Type 0 where
  pub column_is : column ≡ t % bands r.across
  pub row_is : row ≡ t / bands r.across
  pub column_below : column < bands r.across
  pub row_below : row < bands r.up

pub tile_parts : (r : Lattice) (t : ℕ) → t < tiles r → IsTile r t (t % bands r.across) (t / bands r.across)
tile_parts r t lt =
    let some = some_column (bands r.up) (bands r.across) t lt in
    record { column_is = refl; row_is = refl; column_below = mod_below t (bands r.across) some; row_below = div_below t (bands r.across) (bands r.up) some lt }
  where
    some_column : (rows columns t : ℕ) → t < rows * columns → 0 < columns
    some_column rows zero t lt = omega (arith, lt)
    some_column rows (suc c) t lt = omega arith

in_band : (a : Axis) (g : ℕ) (i : ℤ) → is_between (band_first a g) (band_past a g) i ≡ true → IsInBand a g i
in_band a g i is = let b = is_between_bounds (band_first a g) (band_past a g) i is in record { low = b.0; high = b.1 }

block_tile : (r : Lattice) (t : ℕ) (i j : ℤ) → IsLattice r → t < tiles r
    → is_between (band_first r.across (t % bands r.across)) (band_past r.across (t % bands r.across)) i && is_between (band_first r.up (t / bands r.across)) (band_past r.up (t / bands r.across)) j ≡ true → in_tile r t i j ≡ true
block_tile r t i j is lt h =
    let x = in_band r.across (t % bands r.across) i (and_parts _ _ h).0 in
    let y = in_band r.up (t / bands r.across) j (and_parts _ _ h).1 in
    let column = band_of_in r.across _ i is.across.band_is.least x in
    let row = band_of_in r.up _ j is.up.band_is.least y in
    let tile : tile_of r i j ≡ t = rw (row, column) (div-add-mod' t (bands r.across)) in
    and_from _ _ (and_from _ _ (within_on r.across i (in_on r.across i is.across.step_is.least (band_in r.across _ i x))) (within_on r.up j (in_on r.up j is.up.step_is.least (band_in r.up _ j y)))) (eq-eqb _ _ tile)

tile_block : (r : Lattice) (t : ℕ) (i j : ℤ) → IsLattice r → in_tile r t i j ≡ true
    → is_between (band_first r.across (t % bands r.across)) (band_past r.across (t % bands r.across)) i && is_between (band_first r.up (t / bands r.across)) (band_past r.up (t / bands r.across)) j ≡ true
tile_block r t i j is h =
    let on = (and_parts _ _ h).0 in
    let x = on_in r.across i is.across.step_is.least (on_within r.across i (and_parts _ _ on).0) in
    let y = on_in r.up j is.up.step_is.least (on_within r.up j (and_parts _ _ on).1) in
    let tile : tile_of r i j ≡ t = eqb-true _ _ (and_parts _ _ h).1 in
    let below = band_below r.across i is.across.band_is.least x in
    let column : band_of r.across i ≡ t % bands r.across = sym (mod-mul-add (band_of r.up j) (bands r.across) (band_of r.across i) below) ∙ ap (λ n. n % bands r.across) tile in
    let row : band_of r.up j ≡ t / bands r.across = sym (div-mul-add (band_of r.up j) (bands r.across) (band_of r.across i) below) ∙ ap (λ n. n / bands r.across) tile in
    let p = of_band r.across _ i is.across.band_is.least x column in
    let q = of_band r.up _ j is.up.band_is.least y row in
    and_from _ _ (is_between_true _ _ i p.low p.high) (is_between_true _ _ j q.low q.high)

pub tile_is_block : (r : Lattice) (t : ℕ) (i j : ℤ) → IsLattice r → t < tiles r
    → (is_between (band_first r.across (t % bands r.across)) (band_past r.across (t % bands r.across)) i && is_between (band_first r.up (t / bands r.across)) (band_past r.up (t / bands r.across)) j) ≡ in_tile r t i j
tile_is_block r t i j is lt = both _ _ (block_tile r t i j is lt) (tile_block r t i j is)

-- ---- as the code reckons them

pub record BlockReckoned (r : Lattice) (t : ℕ) (b : Block) : Type 0 where
  pub block : IsBlock b
  pub places_are : (i j : ℤ) → in_block b i j ≡ in_tile r t i j

-- a band's places are some of the axis, a raster's numbers
record BandPlaces (a : Axis) (g : ℕ) : Type 0 where
  least : negsuc 2147483647 ≤ℤ band_first a g
  order : band_first a g <ℤ band_past a g
  most : band_past a g ≤ℤ pos 2147483648
  few : span_len (band_first a g) (band_past a g) ≤ extent a

band_places : (a : Axis) (g : ℕ) → IsAxis a → g < bands a → BandPlaces a g
band_places a g is lt =
    let f = first_bounded a is in let p = past_bounded a is in
    let order = first_before_last a g is.band_is.least lt in
    let start = (first_in a g is.band_is.least lt).low in
    let stop = stops (band_first a g +ℤ pos a.band) (past a) in
    record { least = from (first a) (band_first a g) f.least start; order = order; most = to (band_past a g) (past a) stop p.most; few = within (first a) (band_first a g) (band_past a g) (past a) start order stop }
  where
    stops : (z p : ℤ) → int_min z p ≤ℤ p
    stops z p = omega (arith, ints, clamps)

    from : (f z : ℤ) → negsuc 2147483647 ≤ℤ f → f ≤ℤ z → negsuc 2147483647 ≤ℤ z
    from f z h k = omega (arith, ints, clamps)

    to : (z p : ℤ) → z ≤ℤ p → p ≤ℤ pos 2147483648 → z ≤ℤ pos 2147483648
    to z p h k = omega (arith, ints, clamps)

    within : (f z y p : ℤ) → f ≤ℤ z → z <ℤ y → y ≤ℤ p → span_len z y ≤ span_len f p
    within f z y p a b c = omega (arith, ints, clamps)

pub block_reckoned : (r : Lattice) (t column row : ℕ) (left bottom right top : ℤ) → IsLattice r → t < tiles r → column ≡ t % bands r.across → row ≡ t / bands r.across
    → left ≡ band_first r.across column → bottom ≡ band_first r.up row → right ≡ band_past r.across column → top ≡ band_past r.up row
    → BlockReckoned r t (record { left = read left; bottom = read bottom; right = read right; top = read top })
block_reckoned r t column row left bottom right top is lt column_is row_is left_is bottom_is right_is top_is =
    let parts = tile_parts r t lt in
    let x = band_places r.across (t % bands r.across) is.across parts.column_below in
    let y = band_places r.up (t / bands r.across) is.up parts.row_below in
    let l : read left ≡ band_first r.across (t % bands r.across) = rw (left_is, column_is) (first_place_read r.across _ is.across parts.column_below) in
    let p : read right ≡ band_past r.across (t % bands r.across) = rw (right_is, column_is) (past_place_read r.across _ is.across parts.column_below) in
    let b : read bottom ≡ band_first r.up (t / bands r.across) = rw (bottom_is, row_is) (first_place_read r.up _ is.up parts.row_below) in
    let q : read top ≡ band_past r.up (t / bands r.across) = rw (top_is, row_is) (past_place_read r.up _ is.up parts.row_below) in
    let few = product (span_len (band_first r.up (t / bands r.across)) (band_past r.up (t / bands r.across))) (span_len (band_first r.across (t % bands r.across)) (band_past r.across (t % bands r.across))) (extent r.up) (extent r.across) y.few x.few is.few in
    record {
      block = rw (l, p, b, q) (record { least_column = x.least; columns = x.order; most_column = x.most; least_row = y.least; rows = y.order; most_row = y.most; few = few });
      places_are = λ i j. rw (l, p, b, q) (tile_is_block r t i j is lt);
    }
  where
    product : (m n h w : ℕ) → m ≤ h → n ≤ w → w * h ≤ 16777216 → m * n ≤ 16777216
    product m n h w a b few = let p : m * n ≤ h * w = mul-le-mul a b in let turned = mul_comm h w in omega (arith, p, turned, few)

-- the edges of a halo, in order and in range
pub record HaloReckoned (r : Lattice) (t : ℕ) (s left right bottom top : ℤ) : Type 0 where
  pub left_is : left ≡ int_max (tile_left r t -ℤ s) lowest
  pub right_is : right ≡ int_min (tile_right r t +ℤ s) highest
  pub bottom_is : bottom ≡ int_max (tile_bottom r t -ℤ s) lowest
  pub top_is : top ≡ int_min (tile_top r t +ℤ s) highest
  pub across : HaloRange r.across (t % bands r.across) s
  pub up : HaloRange r.up (t / bands r.across) s
  pub squares_are : (x y : ℤ) → IsInRange x y → (is_between left right x && is_between bottom top y) ≡ in_halo r t s x y

pub halo_reckoned : (r : Lattice) (t column row : ℕ) (s left right bottom top : ℤ) → IsLattice r → t < tiles r → IsSpacing s → column ≡ t % bands r.across → row ≡ t / bands r.across
    → left ≡ halo_begin r.across column (read s) → right ≡ halo_end r.across column (read s) → bottom ≡ halo_begin r.up row (read s) → top ≡ halo_end r.up row (read s)
    → HaloReckoned r t s (read left) (read right) (read bottom) (read top)
halo_reckoned r t column row s left right bottom top is lt spacing column_is row_is left_is right_is bottom_is top_is =
    let parts = tile_parts r t lt in
    let x = halo_range r.across (t % bands r.across) s is.across parts.column_below spacing in
    let y = halo_range r.up (t / bands r.across) s is.up parts.row_below spacing in
    let s_is = spacing_read s spacing in
    let l : read left ≡ halo_begin r.across (t % bands r.across) s = rw (left_is, column_is, s_is) (halo_begin_read x) in
    let p : read right ≡ halo_end r.across (t % bands r.across) s = rw (right_is, column_is, s_is) (halo_end_read x) in
    let b : read bottom ≡ halo_begin r.up (t / bands r.across) s = rw (bottom_is, row_is, s_is) (halo_begin_read y) in
    let q : read top ≡ halo_end r.up (t / bands r.across) s = rw (top_is, row_is, s_is) (halo_end_read y) in
    record {
      left_is = l;
      right_is = p;
      bottom_is = b;
      top_is = q;
      across = x;
      up = y;
      squares_are = λ u v range. rw (l, p, b, q, halo_between r.across (t % bands r.across) s u range.left range.right, halo_between r.up (t / bands r.across) s v range.bottom range.top) refl;
    }
