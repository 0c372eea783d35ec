-- Places of one axis, band by band.
use Rattle.std.proofs.Common.{◌≡◌, ℕ, suc, ◌+◌, ◌*◌, ◌/◌, ◌≤◌, ◌<◌, inl, inr, ℤ, pos, ◌+ℤ◌, ◌-ℤ◌, ◌≤ℤ◌, ◌<ℤ◌, arith}
use Rattle.std.specs.Int.{div_ceil, int_min}
use Rattle.std.proofs.lemmas.Bool.{cases_lt}
use Rattle.std.proofs.lemmas.Grind.{div_ceil_times}
use Rattle.std.proofs.lemmas.Int.{ints, clamps}
use Rattle.std.proofs.lemmas.Nat.{le-div, div_below, row_fits}
use Rattle.std.proofs.Math.Nat.{div-mul-le_self, lt-div-mul-add, mul-le-mul}
use Rattle.fill_base.specs.Counts.{span_len}
use Rattle.fill_raster.specs.Axes.{first, past, extent, bands, band_of, band_first, band_past}
use Rattle.fill_raster.specs.declared.axis.Axis.{Axis}
use Rattle.fill_raster.proofs.Ranges.{IsIn, first_past}

-- ---- numbers in bands of b, of which there are e

same : (n : ℕ) → n ≤ n
same n = omega arith

pub starts_below : (e b g : ℕ) → 1 ≤ b → g < div_ceil e b → g * b < e
starts_below e b g some lt = let row = row_fits g b (div_ceil e b) b lt (same b) in let h = (div_ceil_times e b some).1 in omega (arith, row, h)

pub below_bands : (e b n : ℕ) → 1 ≤ b → n < e → n / b < div_ceil e b
below_bands e b n some lt = let h = (div_ceil_times e b some).0 in div_below n b (div_ceil e b) some (omega (arith, h))

-- there are no more bands than numbers
pub bands_few : (e b : ℕ) → 1 ≤ b → div_ceil e b ≤ e
bands_few e b some = few (div_ceil e b) e b some (div_ceil_times e b some).1
  where
    few : (c e b : ℕ) → 1 ≤ b → c * b < e + b → c ≤ e
    few c e b some lt = elim (cases_lt e c) [
      | inl above ↦
          let row : suc e * b ≤ c * b = mul-le-mul above (same b) in
          let least : e * 1 ≤ e * b = mul-le-mul (same e) some in
          omega (arith, row, least, lt)
      | inr le ↦ le
    ]

-- a number is in the band that its quotient says
pub in_band_of : (n b : ℕ) → 1 ≤ b → (n / b * b ≤ n) × (n < n / b * b + b)
in_band_of n b some = (div-mul-le_self n b, lt-div-mul-add some)

pub band_is : (n b g : ℕ) → 1 ≤ b → g * b ≤ n → n < g * b + b → n / b ≡ g
band_is n b g some low high =
    let least = le-div g n b some low in
    let most = div_below n b (suc g) some (above g b n high) in
    omega (arith, least, most)
  where
    above : (g b n : ℕ) → n < g * b + b → n < suc g * b
    above g b n h = omega (arith, h)

-- ---- places

-- how far a place is from the first one
pub apart_below : (a : Axis) (i : ℤ) → IsIn a i → span_len (first a) i < extent a
apart_below a i is = less (first a) (past a) i is.low is.high
  where
    less : (f p i : ℤ) → f ≤ℤ i → i <ℤ p → span_len f i < span_len f p
    less f p i low high = omega (arith, ints, clamps)

pub band_below : (a : Axis) (i : ℤ) → 1 ≤ a.band → IsIn a i → band_of a i < bands a
band_below a i some is = below_bands (extent a) a.band (span_len (first a) i) some (apart_below a i is)

-- the first place of a band is the raster's
pub first_in : (a : Axis) (g : ℕ) → 1 ≤ a.band → g < bands a → IsIn a (band_first a g)
first_in a g some lt = record { low = later (first a) (g * a.band); high = within (first a) (past a) (g * a.band) (first_past a) (starts_below (extent a) a.band g some lt) }
  where
    later : (f : ℤ) (m : ℕ) → f ≤ℤ (f +ℤ pos m)
    later f m = omega (arith, ints, clamps)

    within : (f p : ℤ) (m : ℕ) → f ≤ℤ p → m < span_len f p → (f +ℤ pos m) <ℤ p
    within f p m le lt = omega (arith, ints, clamps)

-- and so is its last one
pub last_in : (a : Axis) (g : ℕ) → 1 ≤ a.band → g < bands a → IsIn a (band_past a g -ℤ pos 1)
last_in a g some lt =
    let f = first_in a g some lt in
    record { low = from (first a) (past a) (band_first a g) a.band some f.low f.high; high = under (first a) (past a) (band_first a g) a.band }
  where
    from : (f p z : ℤ) (b : ℕ) → 1 ≤ b → f ≤ℤ z → z <ℤ p → f ≤ℤ (int_min (z +ℤ pos b) p -ℤ pos 1)
    from f p z b some low high = omega (arith, ints, clamps)

    under : (f p z : ℤ) (b : ℕ) → (int_min (z +ℤ pos b) p -ℤ pos 1) <ℤ p
    under f p z b = omega (arith, ints, clamps)

pub first_before_last : (a : Axis) (g : ℕ) → 1 ≤ a.band → g < bands a → band_first a g <ℤ band_past a g
first_before_last a g some lt = before (band_first a g) (past a) a.band some (first_in a g some lt).high
  where
    before : (z p : ℤ) (b : ℕ) → 1 ≤ b → z <ℤ p → z <ℤ int_min (z +ℤ pos b) p
    before z p b some lt = omega (arith, ints, clamps)

-- ---- a band's places are a range

-- a place of a band
pub record IsInBand (a : Axis) (g : ℕ) (i : ℤ) : Type 0 where
  pub low : band_first a g ≤ℤ i
  pub high : i <ℤ band_past a g

pub of_band : (a : Axis) (g : ℕ) (i : ℤ) → 1 ≤ a.band → IsIn a i → band_of a i ≡ g → IsInBand a g i
of_band a g i some is e =
    let n = rw e at (in_band_of (span_len (first a) i) a.band some) in
    record { low = from (first a) i (g * a.band) is.low n.0; high = under (first a) (past a) i (g * a.band) a.band is.low is.high n.1 }
  where
    from : (f i : ℤ) (m : ℕ) → f ≤ℤ i → m ≤ span_len f i → (f +ℤ pos m) ≤ℤ i
    from f i m low le = omega (arith, ints, clamps)

    under : (f p i : ℤ) (m b : ℕ) → f ≤ℤ i → i <ℤ p → span_len f i < m + b → i <ℤ int_min ((f +ℤ pos m) +ℤ pos b) p
    under f p i m b low high lt = omega (arith, ints, clamps)

pub band_in : (a : Axis) (g : ℕ) (i : ℤ) → IsInBand a g i → IsIn a i
band_in a g i is = record { low = later (first a) i (g * a.band) is.low; high = below i (band_first a g +ℤ pos a.band) (past a) is.high }
  where
    later : (f i : ℤ) (m : ℕ) → (f +ℤ pos m) ≤ℤ i → f ≤ℤ i
    later f i m h = omega (arith, ints, clamps)

    below : (i z p : ℤ) → i <ℤ int_min z p → i <ℤ p
    below i z p h = omega (arith, ints, clamps)

pub band_of_in : (a : Axis) (g : ℕ) (i : ℤ) → 1 ≤ a.band → IsInBand a g i → band_of a i ≡ g
band_of_in a g i some is = band_is (span_len (first a) i) a.band g some (least (first a) i (g * a.band) is.low) (most (first a) i (past a) (g * a.band) a.band is.low is.high)
  where
    least : (f i : ℤ) (m : ℕ) → (f +ℤ pos m) ≤ℤ i → m ≤ span_len f i
    least f i m h = omega (arith, ints, clamps)

    most : (f i p : ℤ) (m b : ℕ) → (f +ℤ pos m) ≤ℤ i → i <ℤ int_min ((f +ℤ pos m) +ℤ pos b) p → span_len f i < m + b
    most f i p m b h k = omega (arith, ints, clamps)
