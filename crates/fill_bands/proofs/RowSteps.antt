-- The walk over the rows of a region between two lines: where it begins, and each step.
use Rattle.std.proofs.Common.{◌≡◌, ℕ, zero, suc, ◌+◌, ◌-◌, ◌≤◌, ◌<◌, ℤ, ◌≤ℤ◌, ◌<ℤ◌, List, [], length, take, get_or, refl, arith, ap, ◌∙◌, sym, Bool, true, false, max, w64, FitsSigned}
use Rattle.std.specs.Prelude.{int_le}
use Rattle.std.specs.Int.{int_max, int_min}
use Rattle.std.proofs.lemmas.Int.{ints, clamps, by_lt_z}
use Rattle.std.proofs.lemmas.List.{take_all}
use Rattle.fill_base.specs.Coordinates.{lowest, highest, IsInRange}
use Rattle.fill_base.specs.Counts.{span_len}
use Rattle.fill_base.proofs.Signed.{read, read32, read_is, fits_max, fits_min, le_trans}
use Rattle.fill_spans.specs.Spans.{inside, floor, ceiling}
use Rattle.fill_bands.specs.Bands.{Band, row_from, holds, last_row, next_bottom, IsBanded}
use Rattle.fill_bands.specs.steps.FirstAbove.{IsFirstAbove}
use Rattle.fill_bands.specs.steps.Rows.{IsAtBand}
use Rattle.fill_spans.proofs.Searching.{outside_low, outside_high}
use Rattle.fill_bands.proofs.Stack.{bottom_next, bottom_range, last_before, row_below, row_past, row_canonical}
use Rattle.fill_bands.proofs.Sweeping.{nothing_canonical}
use Rattle.fill_bands.proofs.Looking.{bottoms_rise, row_of_place}
use Rattle.fill_bands.proofs.SweepTurns.{bottom_read}

-- a line that the walk has not passed has the row before the next band
row_here : (bs : List Band) (from top y : ℤ) (n : ℕ) → IsAtBand bs from top n → from <ℤ top → n ≤ length bs → from ≤ℤ y → (n < length bs → y <ℤ next_bottom bs n) → row_from [] bs y ≡ last_row [] (take n bs)
row_here bs from top y n at lt within low high =
    row_of_place floor ceiling y [] bs n at.region.bands within (λ k less. le_trans _ from y (at.before lt k less (omega arith)) low) high

-- the row that comes next has the squares of its lines
pub row_squares : (bs : List Band) (from top next : ℤ) (n : ℕ) (z : Band) → IsAtBand bs from top n → from <ℤ top → n < length bs → next ≡ int_min top (next_bottom bs n)
    → (x y : ℤ) → from ≤ℤ y → y <ℤ next → holds bs x y ≡ inside (get_or bs (n - 1) z).1 x
row_squares bs from top next n z at lt within next_is x y low high =
    ap (λ row. inside row x) (row_here bs from top y n at lt (omega arith) low (λ inner. below y next top (next_bottom bs n) high next_is)
    ∙ last_before [] bs n z (let s : 1 ≤ n = at.some in omega arith) (omega arith))
  where
    below : (y next top bottom : ℤ) → y <ℤ next → next ≡ int_min top bottom → y <ℤ bottom
    below y next top bottom lt is = omega (arith, ints, clamps)

-- past the last band, or from the upper line on, nothing is left
pub nothing_left : (bs : List Band) (from top : ℤ) (n : ℕ) → IsAtBand bs from top n → from <ℤ top → length bs ≤ n → (x y : ℤ) → from ≤ℤ y → y <ℤ top → holds bs x y ≡ false
nothing_left bs from top n at lt past x y low high =
    ap (λ row. inside row x) (row_of_place floor ceiling y [] bs (length bs) at.region.bands (omega arith) (λ k less. le_trans _ from y (at.before lt k (omega arith) less) low) (λ inner. absurd (omega arith))
    ∙ (ap (λ b. last_row [] b) (take_all (length bs) bs (omega arith)) ∙ at.region.closed))

pub no_lines_left : (bs : List Band) (from top : ℤ) → top ≤ℤ from → (x y : ℤ) → from ≤ℤ y → y <ℤ top → holds bs x y ≡ false
no_lines_left bs from top le x y low high = absurd (omega (arith, ints, clamps))

-- the line at which the next row ends
pub record IsRowEnd (from top next : ℤ) : Type 0 where
  pub above : from <ℤ next
  pub within : next ≤ℤ top
  pub fits : FitsSigned w64 next
  pub fewer : span_len next top < span_len from top

pub row_end : (bs : List Band) (from top next : ℤ) (n : ℕ) → IsAtBand bs from top n → from <ℤ top → n < length bs → next ≡ int_min top (next_bottom bs n) → IsRowEnd from top next
row_end bs from top next n at lt within is = ends from top next (next_bottom bs n) lt (at.after lt within) is at.from_fits at.top_fits
  where
    ends : (from top next bottom : ℤ) → from <ℤ top → from <ℤ bottom → next ≡ int_min top bottom → FitsSigned w64 from → FitsSigned w64 top → IsRowEnd from top next
    ends from top next bottom lt far is f g = record {
      above = omega (arith, ints, clamps);
      within = omega (arith, ints, clamps);
      fits = omega (arith, ints, clamps);
      fewer = omega (arith, ints, clamps);
    }

pub row_passed : (bs : List Band) (from top next : ℤ) (n : ℕ) → IsAtBand bs from top n → from <ℤ top → n < length bs → next ≡ int_min top (next_bottom bs n) → IsAtBand bs next top (n + 1)
row_passed bs from top next n at lt within is = record {
  region = at.region;
  from_fits = (row_end bs from top next n at lt within is).fits;
  top_fits = at.top_fits;
  some = omega arith;
  before = λ below k less inner. rw (whole next top (next_bottom bs n) below is) (bottoms_rise floor ceiling [] bs k n at.region.bands (omega arith) within);
  after = λ below inner. rw (whole next top (next_bottom bs n) below is) (bottom_next floor ceiling [] bs n within at.region.bands);
}
  where
    whole : (next top bottom : ℤ) → next <ℤ top → next ≡ int_min top bottom → next ≡ bottom
    whole next top bottom lt is = omega (arith, ints, clamps)

-- where the rows from the line `bottom` on begin
pub record IsBegun (bs : List Band) (bottom from top : ℤ) (n : ℕ) : Type 0 where
  pub at : IsAtBand bs from top n
  pub passed : (x y : ℤ) → bottom ≤ℤ y → y <ℤ from → holds bs x y ≡ false
  pub within : bottom ≤ℤ top → from ≤ℤ top

at_begin : (bs : List Band) (bottom from top : ℤ) (k : ℕ) → IsBanded bs → FitsSigned w64 from → FitsSigned w64 top → IsFirstAbove bs bottom k → from ≡ int_max bottom (int_min (next_bottom bs (max k 1 - 1)) top) → IsAtBand bs from top (max k 1)
at_begin bs bottom from top zero region from_fits top_fits first is = record {
  region = region;
  from_fits = from_fits;
  top_fits = top_fits;
  some = omega arith;
  before = λ lt k less inner. let e : k ≡ 0 = omega arith in rw e (later bottom from top (next_bottom bs 0) lt is);
  after = λ lt inner. both bottom from top (next_bottom bs 0) (next_bottom bs 1) lt is (first.after (omega arith)) (bottom_next floor ceiling [] bs 0 (omega arith) region.bands);
}
  where
    later : (bottom from top first : ℤ) → from <ℤ top → from ≡ int_max bottom (int_min first top) → first ≤ℤ from
    later bottom from top first lt is = omega (arith, ints, clamps)

    both : (bottom from top first next : ℤ) → from <ℤ top → from ≡ int_max bottom (int_min first top) → bottom <ℤ first → first <ℤ next → from <ℤ next
    both bottom from top first next lt is h k = omega (arith, ints, clamps)
at_begin bs bottom from top (suc k) region from_fits top_fits first is = record {
  region = region;
  from_fits = from_fits;
  top_fits = top_fits;
  some = omega arith;
  before = λ lt j less inner. le_trans _ bottom from (first.before j (omega arith)) (rw is (omega (arith, ints, clamps)));
  after = λ lt inner. rw (whole bs bottom from top k lt is (first.before k (omega arith))) (rw (index k) (first.after (rw (sym (index k)) inner)));
}
  where
    index : (k : ℕ) → max (suc k) 1 ≡ suc k
    index k = omega arith

    whole : (bs : List Band) (bottom from top : ℤ) (k : ℕ) → from <ℤ top → from ≡ int_max bottom (int_min (next_bottom bs (max (suc k) 1 - 1)) top) → next_bottom bs k ≤ℤ bottom → from ≡ bottom
    whole bs bottom from top k lt is le =
        let e : max (suc k) 1 - 1 ≡ k = omega arith in
        let is' : from ≡ int_max bottom (int_min (next_bottom bs k) top) = is ∙ ap (λ n. int_max bottom (int_min (next_bottom bs n) top)) e in
        omega (arith, ints, clamps)

passed_at_begin : (bs : List Band) (bottom from top : ℤ) (k : ℕ) → IsBanded bs → IsFirstAbove bs bottom k → from ≡ int_max bottom (int_min (next_bottom bs (max k 1 - 1)) top) → (x y : ℤ) → bottom ≤ℤ y → y <ℤ from → holds bs x y ≡ false
passed_at_begin bs bottom from top zero region first is x y low high =
    ap (λ row. inside row x) (row_of_place floor ceiling y [] bs 0 region.bands (omega arith) (λ k less. absurd (omega arith)) (λ inner. below y bottom from top (next_bottom bs 0) low high is))
  where
    below : (y bottom from top first : ℤ) → bottom ≤ℤ y → y <ℤ from → from ≡ int_max bottom (int_min first top) → y <ℤ first
    below y bottom from top first low lt is = omega (arith, ints, clamps)
passed_at_begin bs bottom from top (suc k) region first is x y low high = absurd (none bs bottom from top k y low high is (first.before k (omega arith)))
  where
    none : (bs : List Band) (bottom from top : ℤ) (k : ℕ) (y : ℤ) → bottom ≤ℤ y → y <ℤ from → from ≡ int_max bottom (int_min (next_bottom bs (max (suc k) 1 - 1)) top) → next_bottom bs k ≤ℤ bottom → ⊥
    none bs bottom from top k y low high is le =
        let e : max (suc k) 1 - 1 ≡ k = omega arith in
        let is' : from ≡ int_max bottom (int_min (next_bottom bs k) top) = is ∙ ap (λ n. int_max bottom (int_min (next_bottom bs n) top)) e in
        omega (arith, ints, clamps)

pub begun : (bs : List Band) (bottom top below cast low from : ℤ) (k n : ℕ) → IsBanded bs → FitsSigned w64 bottom → FitsSigned w64 top → IsFirstAbove bs (read bottom) k → n ≡ max k 1
    → below ≡ next_bottom bs (n - 1) → cast ≡ read32 below → low ≡ int_min (read cast) (read top) → from ≡ int_max (read bottom) (read low) → IsBegun bs bottom (read from) (read top) n
begun bs bottom top below cast low from k n region bottom_fits top_fits first n_is below_is cast_is low_is from_is =
    let here : IsFirstAbove bs bottom k = rw (read_is bottom bottom_fits) at first in
    let band : cast ≡ next_bottom bs (max k 1 - 1) = cast_is ∙ (ap read32 (below_is ∙ ap (λ m. next_bottom bs (m - 1)) n_is) ∙ bottom_read bs (max k 1 - 1) region) in
    let range = bottom_range floor ceiling [] bs (max k 1 - 1) region.bands in
    let band_fits : FitsSigned w64 (next_bottom bs (max k 1 - 1)) = edge_fits _ range.0 range.1 in
    let low' : low ≡ int_min (next_bottom bs (max k 1 - 1)) top = low_is ∙ rw (band, read_is _ band_fits, read_is top top_fits) refl in
    let low_fits : FitsSigned w64 (int_min (next_bottom bs (max k 1 - 1)) top) = fits_min _ top band_fits top_fits in
    let is : from ≡ int_max bottom (int_min (next_bottom bs (max k 1 - 1)) top) = from_is ∙ rw (read_is bottom bottom_fits, low', read_is _ low_fits) refl in
    let from_fits : FitsSigned w64 from = rw is (fits_max bottom _ bottom_fits low_fits) in
    rw (read_is from from_fits, read_is top top_fits, n_is) (record {
      at = at_begin bs bottom from top k region from_fits top_fits here is;
      passed = passed_at_begin bs bottom from top k region here is;
      within = λ ordered. below_top bottom from top (next_bottom bs (max k 1 - 1)) is ordered;
    })
  where
    edge_fits : (z : ℤ) → floor <ℤ z → z ≤ℤ ceiling → FitsSigned w64 z
    edge_fits z low high = omega (arith, ints, clamps)

    below_top : (bottom from top first : ℤ) → from ≡ int_max bottom (int_min first top) → bottom ≤ℤ top → from ≤ℤ top
    below_top bottom from top first is ordered = omega (arith, ints, clamps)

-- as the code reads its numbers
int_below : (a b : ℤ) → int_le b a ≡ false → a <ℤ b
int_below a b h = grind (arith, ints)

pub still_below : (bs : List Band) (from top : ℤ) (n : ℕ) → IsAtBand bs from top n → int_le (read top) (read from) ≡ false → from <ℤ top
still_below bs from top n at test = int_below from top (rw (read_is from at.from_fits, read_is top at.top_fits) at test)

pub not_below : (bs : List Band) (from top : ℤ) (n : ℕ) → IsAtBand bs from top n → int_le (read top) (read from) ≡ true → top ≤ℤ from
not_below bs from top n at test = is_le top from (rw (read_is from at.from_fits, read_is top at.top_fits) at test)
  where
    is_le : (a b : ℤ) → int_le a b ≡ true → a ≤ℤ b
    is_le a b h = grind (arith, ints)

pub next_line : (bs : List Band) (from top below cast next : ℤ) (n : ℕ) → IsAtBand bs from top n → below ≡ next_bottom bs n → cast ≡ read32 below → next ≡ int_min (read top) (read cast) → next ≡ int_min top (next_bottom bs n)
next_line bs from top below cast next n at below_is cast_is next_is =
    let range = bottom_range floor ceiling [] bs n at.region.bands in
    let band : read cast ≡ next_bottom bs n = ap read (cast_is ∙ (ap read32 below_is ∙ bottom_read bs n at.region)) ∙ read_is _ (edge_fits _ range.0 range.1) in
    next_is ∙ rw (read_is top at.top_fits, band) refl
  where
    edge_fits : (z : ℤ) → floor <ℤ z → z ≤ℤ ceiling → FitsSigned w64 z
    edge_fits z low high = omega (arith, ints, clamps)

not_both : (b : Bool) → b ≡ true → b ≡ false → ⊥
not_both b h k = let e : true ≡ false = sym h ∙ k in cc

at_least : (a b : ℤ) → (a <ℤ b → ⊥) → b ≤ℤ a
at_least a b none = by_lt_z a b (λ lt. absurd (none lt)) (λ le. le)

below : (a b : ℤ) → (b ≤ℤ a → ⊥) → a <ℤ b
below a b none = by_lt_z a b (λ lt. lt) (λ le. absurd (none le))

-- a square of a region lies within the coordinates
pub region_in_range : (bs : List Band) (x y : ℤ) → IsBanded bs → holds bs x y ≡ true → IsInRange x y
region_in_range bs x y region is =
    let canonical = row_canonical floor ceiling y [] bs nothing_canonical region.bands in
    record {
      left = at_least x lowest (λ lt. not_both _ is (outside_low (row_from [] bs y) x canonical lt));
      right = below x highest (λ le. not_both _ is (outside_high (row_from [] bs y) x canonical le));
      bottom = at_least y lowest (λ lt. not_both _ is (ap (λ row. inside row x) (row_below floor ceiling y [] bs region.bands (omega (arith, ints, clamps)))));
      top = below y highest (λ le. not_both _ is (ap (λ row. inside row x) (row_past floor ceiling y [] bs region.bands (omega (arith, ints, clamps)) ∙ region.closed)));
    }
