-- The laws of rasters.
use Rattle.std.proofs.Common.{◌≡◌, ℕ, ◌*◌, ◌%◌, ◌/◌, ◌<◌, ℤ, pos, ◌+ℤ◌, ◌-ℤ◌, ◌*ℤ◌, ◌≤ℤ◌, ◌<ℤ◌, arith, ◌∙◌, sym, refl, inl, inr, true, false}
use Rattle.std.specs.Ordering.{int_eq}
use Rattle.std.proofs.lemmas.Bool.{cases_Bool, and_from, and_parts}
use Rattle.std.proofs.lemmas.Bool.Decides.{Decides-int_eq}
use Rattle.std.proofs.lemmas.Int.{ints, clamps, by_lt_z}
use Rattle.std.proofs.Math.Nat.{mul_comm}
use Rattle.fill_base.specs.Counts.{is_between, count_between}
use Rattle.fill_base.specs.Squares.{area_between}
use Rattle.fill_base.proofs.Between.{is_between_true, is_between_bounds}
use Rattle.fill_base.proofs.Counting.{count_between_const, sum_between_const}
use Rattle.fill_raster.specs.Axes.{box_begin, box_end, first, past, extent, bands, band_first, band_past, band_begin, band_end, IsAxis, IsPitch}
use Rattle.fill_raster.specs.Lattice.{in_raster}
use Rattle.fill_raster.specs.Laws.{PlacesAreARange, PlacesAreCounted, EachPlaceHasATile, TilesAreBlocks, TileEdgesBoundItsBoxes, TileEdgesAreReached, KeepsGap, BoxesKeepTheSpacing}
use Rattle.fill_raster.specs.declared.axis.Axis.{Axis}
use Rattle.fill_raster.proofs.Blocks.{tile_parts, tile_is_block}
use Rattle.fill_raster.proofs.Floors.{product_le, product_lt}
use Rattle.fill_raster.proofs.Bands.{first_before_last}
use Rattle.fill_raster.proofs.Ranges.{on_range, first_past}
use Rattle.fill_raster.proofs.Tiling.{tile_of_below}

pub places_range : PlacesAreARange
places_range r is i j = rw (on_range r.across i is.across.step_is.least, on_range r.up j is.up.step_is.least) refl

pub places_counted : PlacesAreCounted
places_counted r is =
    let row : (y : ℤ) → first r.up ≤ℤ y → y <ℤ past r.up → count_between (λ x. in_raster r x y) (first r.across) (past r.across) ≡ extent r.across * 1 =
    λ y low high. count_between_const (λ x. in_raster r x y) (first r.across) (past r.across) true (first_past r.across)
    (λ x l h. rw (on_range r.across x is.across.step_is.least, on_range r.up y is.up.step_is.least, is_between_true _ _ x l h, is_between_true _ _ y low high) refl) in
    let whole : area_between (in_raster r) (first r.across) (first r.up) (past r.across) (past r.up) ≡ extent r.up * (extent r.across * 1) =
    sum_between_const (λ y. count_between (λ x. in_raster r x y) (first r.across) (past r.across)) (first r.up) (past r.up) (extent r.across * 1) (first_past r.up) row in
    whole ∙ turned (extent r.up) (extent r.across)
  where
    turned : (m n : ℕ) → m * (n * 1) ≡ n * m
    turned m n = let one : n * 1 ≡ n = omega arith in rw one (mul_comm m n)

pub place_has_a_tile : EachPlaceHasATile
place_has_a_tile r is i j on = tile_of_below r i j is on

pub tiles_blocks : TilesAreBlocks
tiles_blocks r is t lt i j = sym (tile_is_block r t i j is lt)

-- ---- edges

-- a box of a band lies between the band's edges
bounded : (a : Axis) (g : ℕ) (i : ℤ) → IsAxis a → is_between (band_first a g) (band_past a g) i ≡ true → (band_begin a g ≤ℤ box_begin a i) × (box_end a i ≤ℤ band_end a g)
bounded a g i is h =
    let b = is_between_bounds (band_first a g) (band_past a g) i h in
    (sooner a.origin _ _ (product_le (band_first a g) i a.step is.step_is.least b.0), later a.origin a.length _ _ (product_le i (band_past a g -ℤ pos 1) a.step is.step_is.least (under i (band_past a g) b.1)))
  where
    under : (i p : ℤ) → i <ℤ p → i ≤ℤ (p -ℤ pos 1)
    under i p lt = omega (arith, ints, clamps)

    sooner : (origin m n : ℤ) → m ≤ℤ n → (origin +ℤ m) ≤ℤ (origin +ℤ n)
    sooner origin m n le = omega (arith, ints, clamps)

    later : (origin length m n : ℤ) → m ≤ℤ n → ((origin +ℤ m) +ℤ length) ≤ℤ ((origin +ℤ n) +ℤ length)
    later origin length m n le = omega (arith, ints, clamps)

pub edges_bound : TileEdgesBoundItsBoxes
edges_bound r is t lt i j h =
    let inside = tile_is_block r t i j is lt ∙ h in
    let x = bounded r.across (t % bands r.across) i is.across (and_parts _ _ inside).0 in
    let y = bounded r.up (t / bands r.across) j is.up (and_parts _ _ inside).1 in
    record { left = x.0; bottom = y.0; right = x.1; top = y.1 }

-- the first and the last place of a band are of the band
ends : (a : Axis) (g : ℕ) → IsAxis a → g < bands a → (is_between (band_first a g) (band_past a g) (band_first a g) ≡ true) × (is_between (band_first a g) (band_past a g) (band_past a g -ℤ pos 1) ≡ true)
ends a g is lt = both_ends (band_first a g) (band_past a g) (first_before_last a g is.band_is.least lt)
  where
    both_ends : (f p : ℤ) → f <ℤ p → (is_between f p f ≡ true) × (is_between f p (p -ℤ pos 1) ≡ true)
    both_ends f p lt = (is_between_true f p f (omega (arith, ints, clamps)) lt, is_between_true f p (p -ℤ pos 1) (omega (arith, ints, clamps)) (omega (arith, ints, clamps)))

pub edges_reached : TileEdgesAreReached
edges_reached r is t lt =
    let parts = tile_parts r t lt in
    let x = ends r.across (t % bands r.across) is.across parts.column_below in
    let y = ends r.up (t / bands r.across) is.up parts.row_below in
    let i = band_first r.across (t % bands r.across) in let j = band_first r.up (t / bands r.across) in
    let k = band_past r.across (t % bands r.across) -ℤ pos 1 in let l = band_past r.up (t / bands r.across) -ℤ pos 1 in
    record {
      i = i;
      j = j;
      k = k;
      l = l;
      first_in = sym (tile_is_block r t i j is lt) ∙ and_from _ _ x.0 y.0;
      last_in = sym (tile_is_block r t k l is lt) ∙ and_from _ _ x.1 y.1;
      left = refl;
      bottom = refl;
      right = refl;
      top = refl;
    }

-- ---- gaps

gap_kept : (a : Axis) (spacing i k : ℤ) → pos 1 ≤ℤ a.step → IsPitch a spacing → i <ℤ k → (box_end a i +ℤ spacing) ≤ℤ box_begin a k
gap_kept a spacing i k one pitch lt = wide a.origin a.length a.step spacing (i *ℤ a.step) (k *ℤ a.step) pitch (product_lt i k a.step one lt)
  where
    wide : (origin length step spacing m n : ℤ) → (length +ℤ spacing) ≤ℤ step → (m +ℤ step) ≤ℤ n → (((origin +ℤ m) +ℤ length) +ℤ spacing) ≤ℤ (origin +ℤ n)
    wide origin length step spacing m n h k = omega (arith, ints, clamps)

keeps_gap : (a : Axis) (spacing i k : ℤ) → pos 1 ≤ℤ a.step → IsPitch a spacing → (i ≡ k → ⊥) → KeepsGap a spacing i k
keeps_gap a spacing i k one pitch ne = by_lt_z i k (λ lt. inl (gap_kept a spacing i k one pitch lt)) (λ le. inr (gap_kept a spacing k i one pitch (below i k ne le)))
  where
    below : (i k : ℤ) → (i ≡ k → ⊥) → k ≤ℤ i → k <ℤ i
    below i k ne le = by_lt_z k i (λ lt. lt) (λ ge. absurd (ne (equal i k le ge)))
      where
        equal : (i k : ℤ) → k ≤ℤ i → i ≤ℤ k → i ≡ k
        equal i k h g = omega (arith, ints, clamps)

pub spacing_kept : BoxesKeepTheSpacing
spacing_kept r spacing is pitch i j k l other = elim (cases_Bool (int_eq i k)) [
  | inl same ↦ inr (keeps_gap r.up spacing j l is.up.step_is.least pitch.1 (λ e. other ((Decides-int_eq i k).0 same, e)))
  | inr apart ↦ inl (keeps_gap r.across spacing i k is.across.step_is.least pitch.0 (λ e. let h : int_eq i k ≡ true = (Decides-int_eq i k).1 e in let f : true ≡ false = sym h ∙ apart in cc))
]
