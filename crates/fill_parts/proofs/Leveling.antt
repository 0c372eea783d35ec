-- The row of a place's tile, and the windows level with it.
use Rattle.std.proofs.Common.{◌≡◌, ℕ, suc, ◌+◌, ◌*◌, ◌/◌, ◌≤◌, ◌<◌, ℤ, pos, ◌+ℤ◌, ◌-ℤ◌, ◌≤ℤ◌, ◌<ℤ◌, arith, true}
use Rattle.std.specs.Prelude.{int_le, int_lt}
use Rattle.std.proofs.Math.Nat.{mul-le-mul}
use Rattle.std.proofs.lemmas.Bool.{and_from, and_parts}
use Rattle.std.proofs.lemmas.Int.{ints, clamps}
use Rattle.fill_base.proofs.Between.{is_between_bounds}
use Rattle.fill_area.specs.Grid.{window_bottom, window_top}
use Rattle.fill_raster.specs.Axes.{IsAxis, band_begin, band_end, band_first, band_of, band_past, bands, box_begin, box_end, is_on}
use Rattle.fill_raster.specs.Lattice.{Lattice, box_squares, in_raster, tile_of, tiles}
use Rattle.fill_raster.specs.declared.axis.Axis.{Axis}
use Rattle.fill_raster.proofs.Bands.{band_below, band_is, of_band}
use Rattle.fill_raster.proofs.Floors.{product_le}
use Rattle.fill_raster.proofs.Ranges.{on_in, on_within}
use Rattle.fill_job.specs.Plans.{IsPlan, Plan, holds_box}
use Rattle.fill_parts.specs.Needs.{is_level, row_of}
use Rattle.fill_parts.specs.Smaller.{AreAxes}

pub axes_of : (plan : Plan) → IsPlan plan → AreAxes plan
axes_of plan is = record { places_across = is.raster.across; places_up = is.raster.up; windows_across = is.windows.across; windows_up = is.windows.up }

-- ---- the tile of a place

row_is : (c row column : ℕ) → column < c → (row * c + column) / c ≡ row
row_is c row column lt = band_is (row * c + column) c row (omega (arith, lt)) (omega arith) (omega (arith, lt))

-- it is in the row of the place
pub place_row : (r : Lattice) (i j : ℤ) → IsAxis r.across → is_on r.across i ≡ true → row_of r (tile_of r i j) ≡ band_of r.up j
place_row r i j across on = row_is (bands r.across) (band_of r.up j) (band_of r.across i) (band_below r.across i across.band_is.least (on_in r.across i across.step_is.least (on_within r.across i on)))

-- and a tile of the raster
pub place_tile : (r : Lattice) (i j : ℤ) → IsAxis r.across → IsAxis r.up → in_raster r i j ≡ true → tile_of r i j < tiles r
place_tile r i j across up on =
    let parts = and_parts (is_on r.across i) (is_on r.up j) on in
    let column = band_below r.across i across.band_is.least (on_in r.across i across.step_is.least (on_within r.across i parts.0)) in
    let row = band_below r.up j up.band_is.least (on_in r.up j up.step_is.least (on_within r.up j parts.1)) in
    let whole = mul-le-mul row (same (bands r.across)) in
    let e = next (band_of r.up j) (bands r.across) in
    omega (arith, whole, column, e)
  where
    same : (n : ℕ) → n ≤ n
    same n = omega arith

    next : (n c : ℕ) → suc n * c ≡ n * c + c
    next n c = omega arith

-- its box lies between the edges of the tile
in_band : (a : Axis) (i : ℤ) → IsAxis a → is_on a i ≡ true → (band_begin a (band_of a i) ≤ℤ box_begin a i) × (box_end a i ≤ℤ band_end a (band_of a i))
in_band a i is on =
    let b = of_band a (band_of a i) i is.band_is.least (on_in a i is.step_is.least (on_within a i on)) (λ k. band_of a i) in
    (sooner a.origin _ _ (product_le (band_first a (band_of a i)) i a.step is.step_is.least b.low), later a.origin a.length _ _ (product_le i (band_past a (band_of a i) -ℤ pos 1) a.step is.step_is.least (under i (band_past a (band_of a i)) b.high)))
  where
    under : (i p : ℤ) → i <ℤ p → i ≤ℤ (p -ℤ pos 1)
    under i p lt = omega (arith, ints, clamps)

    sooner : (origin m n : ℤ) → m ≤ℤ n → (origin +ℤ m) ≤ℤ (origin +ℤ n)
    sooner origin m n le = omega (arith, ints, clamps)

    later : (origin length m n : ℤ) → m ≤ℤ n → ((origin +ℤ m) +ℤ length) ≤ℤ ((origin +ℤ n) +ℤ length)
    later origin length m n le = omega (arith, ints, clamps)

-- ---- windows level with it

lt_is : (a b : ℤ) → a <ℤ b → int_lt a b ≡ true
lt_is a b h = grind (arith, ints)

is_le : (a b : ℤ) → int_le a b ≡ true → a ≤ℤ b
is_le a b h = grind (arith, ints)

-- a window that shares a line of squares with the box is
level_by : (plan : Plan) (b : ℕ) (i j : ℤ) → AreAxes plan → in_raster plan.raster i j ≡ true → window_bottom plan.windows b <ℤ box_end plan.raster.up j → box_begin plan.raster.up j <ℤ window_top plan.windows b
    → is_level plan (tile_of plan.raster i j) b ≡ true
level_by plan b i j are on low high =
    let parts = and_parts (is_on plan.raster.across i) (is_on plan.raster.up j) on in
    let edges = in_band plan.raster.up j are.places_up parts.1 in
    rw (place_row plan.raster i j are.places_across parts.0) (and_from _ _ (lt_is _ _ (wider _ _ _ low edges.1)) (lt_is _ _ (lower _ _ _ edges.0 high)))
  where
    wider : (l e t : ℤ) → l <ℤ e → e ≤ℤ t → l <ℤ t
    wider l e t h k = omega (arith, ints)

    lower : (t b h : ℤ) → t ≤ℤ b → b <ℤ h → t <ℤ h
    lower t b h k l = omega (arith, ints)

-- so is one that holds the box
pub level_holding : (plan : Plan) (a b : ℕ) (i j : ℤ) → AreAxes plan → in_raster plan.raster i j ≡ true → holds_box plan a b i j ≡ true → is_level plan (tile_of plan.raster i j) b ≡ true
level_holding plan a b i j are on holds =
    let parts = and_parts _ _ (and_parts _ _ holds).1 in
    level_by plan b i j are on (shorter (window_bottom plan.windows b) (box_begin plan.raster.up j) plan.raster.up.length are.places_up.length_is.least (is_le _ _ parts.0))
    (longer (box_begin plan.raster.up j) (window_top plan.windows b) plan.raster.up.length are.places_up.length_is.least (is_le _ _ parts.1))
  where
    shorter : (w b n : ℤ) → pos 1 ≤ℤ n → w ≤ℤ b → w <ℤ (b +ℤ n)
    shorter w b n h k = omega (arith, ints)

    longer : (b t n : ℤ) → pos 1 ≤ℤ n → (b +ℤ n) ≤ℤ t → b <ℤ t
    longer b t n h k = omega (arith, ints)

-- and one that has a row of squares of the box
pub level_meeting : (plan : Plan) (b : ℕ) (i j x y : ℤ) → AreAxes plan → in_raster plan.raster i j ≡ true → window_bottom plan.windows b ≤ℤ y → y <ℤ window_top plan.windows b → box_squares plan.raster i j x y ≡ true
    → is_level plan (tile_of plan.raster i j) b ≡ true
level_meeting plan b i j x y are on low high holds =
    let inside = is_between_bounds (box_begin plan.raster.up j) (box_end plan.raster.up j) y (and_parts _ _ holds).1 in
    level_by plan b i j are on (under _ y _ low inside.1) (over _ y _ inside.0 high)
  where
    under : (w y e : ℤ) → w ≤ℤ y → y <ℤ e → w <ℤ e
    under w y e h k = omega (arith, ints)

    over : (b y t : ℤ) → b ≤ℤ y → y <ℤ t → b <ℤ t
    over b y t h k = omega (arith, ints)
