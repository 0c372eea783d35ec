-- Where columns at even steps begin and end, in mathematics and as the code computes it.
use Rattle.std.proofs.Common.{◌≡◌, ℕ, ◌+◌, ◌*◌, ◌^◌, ◌≤◌, ◌<◌, ℤ, pos, negsuc, ◌+ℤ◌, ◌*ℤ◌, ◌≤ℤ◌, arith, ap, ◌∙◌, w64, to_z, FitsSigned}
use Rattle.std.proofs.lemmas.Int.{ints}
use Rattle.fill_base.specs.Coordinates.{lowest, highest}
use Rattle.fill_base.proofs.Signed.{read, read_is}
use Rattle.fill_spans.specs.EvenColumns.{column_left, column_right}

-- a product of numbers that are not negative
product_least : (a : ℕ) (step : ℤ) → pos 0 ≤ℤ step → pos 0 ≤ℤ (pos a *ℤ step)
product_least a (pos n) h = omega (arith, ints)
product_least a (negsuc n) h = absurd (omega (arith, ints))

-- a column that begins within the coordinates, as the code computes where
pub record BeginsAt (first step : ℤ) (a : ℕ) : Type 0 where
  pub product_fits : FitsSigned w64 (to_z w64 a *ℤ read step)
  pub sum_fits : FitsSigned w64 (read first +ℤ read (to_z w64 a *ℤ read step))
  pub is : read (read first +ℤ read (to_z w64 a *ℤ read step)) ≡ column_left first step a

pub begins_at : (first step : ℤ) (a : ℕ) → FitsSigned w64 first → FitsSigned w64 step → lowest ≤ℤ first → pos 0 ≤ℤ step → a < 2 ^ 63 → column_left first step a ≤ℤ highest → BeginsAt first step a
begins_at first step a first_fits step_fits low step_low small high =
    let least : pos 0 ≤ℤ (pos a *ℤ step) = product_least a step step_low in
    let index : to_z w64 a ≡ pos a = omega (arith, ints) in
    let fits : FitsSigned w64 (pos a *ℤ step) = short first (pos a *ℤ step) low least high in
    let whole : FitsSigned w64 (first +ℤ (pos a *ℤ step)) = sum_short first (pos a *ℤ step) low least high in
    record {
      product_fits = rw (index, read_is step step_fits) fits;
      sum_fits = rw (index, read_is first first_fits, read_is step step_fits, read_is _ fits) whole;
      is = rw (index, read_is first first_fits, read_is step step_fits, read_is _ fits) (read_is _ whole);
    }
  where
    short : (f p : ℤ) → lowest ≤ℤ f → pos 0 ≤ℤ p → (f +ℤ p) ≤ℤ highest → FitsSigned w64 p
    short f p h k l = omega (arith, ints)

    sum_short : (f p : ℤ) → lowest ≤ℤ f → pos 0 ≤ℤ p → (f +ℤ p) ≤ℤ highest → FitsSigned w64 (f +ℤ p)
    sum_short f p h k l = omega (arith, ints)

-- a column lies within the coordinates
pub record IsWithin (first step width : ℤ) (a : ℕ) : Type 0 where
  pub first_low : lowest ≤ℤ first
  pub rising : pos 0 ≤ℤ step
  pub low : lowest ≤ℤ column_left first step a
  pub ordered : column_left first step a ≤ℤ column_right first step width a
  pub left_high : column_left first step a ≤ℤ highest
  pub high : column_right first step width a ≤ℤ highest
  pub left_fits : FitsSigned w64 (column_left first step a)
  pub right_fits : FitsSigned w64 (column_right first step width a)

pub is_within : (first step width : ℤ) (a : ℕ) → lowest ≤ℤ first → pos 0 ≤ℤ step → pos 0 ≤ℤ width → column_right first step width a ≤ℤ highest → IsWithin first step width a
is_within first step width a low step_low width_low high =
    let least = product_least a step step_low in
    record {
      first_low = low;
      rising = step_low;
      low = low_side first (pos a *ℤ step) low least;
      ordered = right_side (column_left first step a) width width_low;
      left_high = left_high (column_left first step a) width width_low high;
      high = high;
      left_fits = left_fits first (pos a *ℤ step) width low least width_low high;
      right_fits = right_fits first (pos a *ℤ step) width low least width_low high;
    }
  where
    low_side : (f p : ℤ) → lowest ≤ℤ f → pos 0 ≤ℤ p → lowest ≤ℤ (f +ℤ p)
    low_side f p h k = omega (arith, ints)

    right_side : (l w : ℤ) → pos 0 ≤ℤ w → l ≤ℤ (l +ℤ w)
    right_side l w h = omega (arith, ints)

    left_high : (l w : ℤ) → pos 0 ≤ℤ w → (l +ℤ w) ≤ℤ highest → l ≤ℤ highest
    left_high l w h k = omega (arith, ints)

    left_fits : (f p w : ℤ) → lowest ≤ℤ f → pos 0 ≤ℤ p → pos 0 ≤ℤ w → ((f +ℤ p) +ℤ w) ≤ℤ highest → FitsSigned w64 (f +ℤ p)
    left_fits f p w h k l m = omega (arith, ints)

    right_fits : (f p w : ℤ) → lowest ≤ℤ f → pos 0 ≤ℤ p → pos 0 ≤ℤ w → ((f +ℤ p) +ℤ w) ≤ℤ highest → FitsSigned w64 ((f +ℤ p) +ℤ w)
    right_fits f p w h k l m = omega (arith, ints)

-- each column of the list lies within the coordinates, as the code reads its numbers
pub reads_within : (first step width : ℤ) (n a : ℕ) → FitsSigned w64 first → FitsSigned w64 step → FitsSigned w64 width → lowest ≤ℤ first → pos 0 ≤ℤ step → pos 0 ≤ℤ width
    → ((k : ℕ) → k < n → column_right first step width k ≤ℤ highest) → a < n → IsWithin (read first) (read step) (read width) a
reads_within first step width n a first_fits step_fits width_fits low step_low width_low high lt =
    rw (read_is first first_fits, read_is step step_fits, read_is width width_fits) (is_within first step width a low step_low width_low (high a lt))

-- a column's ends, as the code reads them
pub record Ends (first step width : ℤ) (a : ℕ) (left : ℤ) : Type 0 where
  pub left_is : read left ≡ column_left first step a
  pub right_is : read (read left +ℤ width) ≡ column_right first step width a

pub ends : (first step width : ℤ) (a : ℕ) (left : ℤ) → IsWithin first step width a → left ≡ column_left first step a → Ends first step width a left
ends first step width a left w is =
    let left_is : read left ≡ column_left first step a = ap read is ∙ read_is _ w.left_fits in
    record {
      left_is = left_is;
      right_is = ap (λ z. read (z +ℤ width)) left_is ∙ read_is _ w.right_fits;
    }

-- no column begins after the next one
pub left_rises : (first step : ℤ) (a : ℕ) → pos 0 ≤ℤ step → column_left first step a ≤ℤ column_left first step (a + 1)
left_rises first (pos n) a h = farther first (a * n) ((a + 1) * n) (more a n)
  where
    more : (a n : ℕ) → a * n ≤ (a + 1) * n
    more a n = let e : (a + 1) * n ≡ a * n + n = omega arith in omega (arith, e)

    farther : (f : ℤ) (m n : ℕ) → m ≤ n → (f +ℤ pos m) ≤ℤ (f +ℤ pos n)
    farther f m n h = omega (arith, ints)
left_rises first (negsuc n) a h = absurd (omega (arith, ints))

-- no column ends after the next one
pub right_rises : (first step width : ℤ) (a : ℕ) → pos 0 ≤ℤ step → column_right first step width a ≤ℤ column_right first step width (a + 1)
right_rises first step width a h = shifted _ _ width (left_rises first step a h)
  where
    shifted : (l m w : ℤ) → l ≤ℤ m → (l +ℤ w) ≤ℤ (m +ℤ w)
    shifted l m w h = omega (arith, ints)

-- the first column begins at `first`, and does not end before
pub at_first : (first step : ℤ) → first ≤ℤ column_left first step 0
at_first first (pos n) = omega (arith, ints)
at_first first (negsuc n) = omega (arith, ints)

pub after_left : (first step width : ℤ) (a : ℕ) → pos 0 ≤ℤ width → column_left first step a ≤ℤ column_right first step width a
after_left first step width a h = wider (column_left first step a) width h
  where
    wider : (l w : ℤ) → pos 0 ≤ℤ w → l ≤ℤ (l +ℤ w)
    wider l w h = omega (arith, ints)
