-- The numbers make a raster exactly where the tests of them say so.
use Rattle.std.proofs.Common.{negsuc, Fits, FitsSigned, w32, w64, ◌≡◌, ℕ, ℤ, pos, ◌≤ℤ◌, Bool, true, false, Ok, Err, if◌then◌else◌, arith, refl, inl, inr, sym}
use Rattle.std.specs.Prelude.{◌+ℤ◌, unsigned_abs}
use Rattle.std.specs.Int.{IsNonNegative}
use Rattle.std.proofs.lemmas.Bool.{cases_Bool}
use Rattle.std.proofs.lemmas.Int.{clamps, ints}
use Rattle.fill_base.specs.Coordinates.{lowest, highest, IsCoordinate}
use Rattle.fill_base.specs.Limits.{IsLength, IsSpacing}
use Rattle.fill_base.specs.Sides.{Sides}
use Rattle.fill_base.proofs.Signed.{read, read_is, coordinate_fits}
use Rattle.fill_raster.specs.Axes.{IsBand}
use Rattle.fill_raster.specs.Lattice.{Lattice, KeepsPitch, HasFewPlaces, places}
use Rattle.fill_text.specs.Rasters.{keeps_pitch, has_few_places, raster_with}
use Rattle.fill_text.specs.declared.rule_error.RuleError.TheVariants.{BadPitch, TooManyPlaces}
use Rattle.fill_text.proofs.GridTests.{int_le_true, int_le_facts, nat_le_true, nat_le_facts}
use Rattle.fill_text.proofs.Rectangles.{both}

-- a number from 1 to 4,096 fits 32 bits without a sign
pub side_fits : (z : ℤ) → pos 1 ≤ℤ z → z ≤ℤ pos 4096 → IsNonNegative z × Fits w32 (unsigned_abs z)
side_fits (pos n) least most = (tt, omega (arith, ints))
side_fits (negsuc n) least most = absurd (omega (arith, ints))

pub is_band : (z : ℤ) → pos 1 ≤ℤ z → z ≤ℤ pos 4096 → IsBand (unsigned_abs z)
is_band (pos n) least most = record { least = omega (arith, ints); most = omega (arith, ints) }
is_band (negsuc n) least most = absurd (omega (arith, ints))

pitch_true : (r : Lattice) (s : ℤ) → KeepsPitch r s → keeps_pitch r s ≡ true
pitch_true r s h = rw (int_le_true _ _ h.0, int_le_true _ _ h.1) refl

pub pitch_facts : (r : Lattice) (s : ℤ) → keeps_pitch r s ≡ true → KeepsPitch r s
pitch_facts r s test = let (across, up) = both _ _ test in (int_le_facts _ _ across, int_le_facts _ _ up)

-- what `Raster::new` answers is the raster with these numbers, or what is wrong with it
pub kept : (r : Lattice) (s : ℤ) → KeepsPitch r s → HasFewPlaces r → raster_with r s ≡ Ok r
unfolding raster_with
kept r s pitch few = rw (pitch_true r s pitch, nat_le_true (places r) 16777216 few) refl

pub pitch_refused : (r : Lattice) (s : ℤ) → ¬ KeepsPitch r s → raster_with r s ≡ Err BadPitch
unfolding raster_with
pitch_refused r s bad = elim (cases_Bool (keeps_pitch r s)) [
  | inl test ↦ absurd (bad (pitch_facts r s test))
  | inr test ↦ rw test refl
]

pub places_refused : (r : Lattice) (s : ℤ) → KeepsPitch r s → ¬ HasFewPlaces r → raster_with r s ≡ Err TooManyPlaces
unfolding raster_with
places_refused r s pitch many = rw (pitch_true r s pitch) (elim (cases_Bool (has_few_places r)) [
  | inl test ↦ absurd (many (nat_le_facts (places r) 16777216 test))
  | inr test ↦ rw test refl
])

-- a raster that is answered
pub raster_same : (r given : Lattice) (s : ℤ) → Ok given ≡ raster_with r s → (given ≡ r) × KeepsPitch r s
unfolding raster_with
raster_same r given s e = by (keeps_pitch r s) (has_few_places r) refl e
  where
    by : (pitch few : Bool) → keeps_pitch r s ≡ pitch → Ok given ≡ (if pitch then (if few then Ok r else Err TooManyPlaces) else Err BadPitch) → (given ≡ r) × KeepsPitch r s
    by true true test e = (cc e, pitch_facts r s test)
    by true false test e = cc e
    by false few test e = cc e

-- ---- as the code reads them

-- a side and a spacing
pub sum_fits : (l s : ℤ) → pos 1 ≤ℤ l → l ≤ℤ pos 1048576 → pos 0 ≤ℤ s → s ≤ℤ pos 1048576 → FitsSigned w64 (l +ℤ s)
sum_fits l s least most low high = omega (arith, ints, clamps)

pub length_in : (v n : ℤ) → v ≡ n → pos 1 ≤ℤ n → n ≤ℤ pos 1048576 → IsLength (read v)
length_in v n e least most = rw (e, read_is n (fits n least most)) (record { least = least; most = most })
  where
    fits : (n : ℤ) → pos 1 ≤ℤ n → n ≤ℤ pos 1048576 → FitsSigned w64 n
    fits n least most = omega (arith, ints)

pub spacing_in : (v n : ℤ) → v ≡ n → pos 0 ≤ℤ n → n ≤ℤ pos 1048576 → IsSpacing (read v)
spacing_in v n e least most = rw (e, read_is n (fits n least most)) (record { least = least; most = most })
  where
    fits : (n : ℤ) → pos 0 ≤ℤ n → n ≤ℤ pos 1048576 → FitsSigned w64 n
    fits n least most = omega (arith, ints)

pub coordinate_in : (v n : ℤ) → v ≡ n → lowest ≤ℤ n → n ≤ℤ highest → IsCoordinate (read v)
coordinate_in v n e least most = rw (e, read_is n (coordinate_fits n least most)) (record { least = least; most = most })

abbrev pub lattice_of_numbers : Sides → ℤ → ℤ → ℤ → ℤ → ℤ → ℤ → ℕ → ℕ → Lattice
lattice_of_numbers f w h s t x y m n = record {
  across = record { low = f.left; high = f.right; length = w; step = s; origin = x; band = m };
  up = record { low = f.bottom; high = f.top; length = h; step = t; origin = y; band = n };
}

-- two rasters of the same numbers
pub lattices_same : (f f' : Sides) (w w' h h' s s' t t' x x' y y' : ℤ) (m m' n n' : ℕ) → f ≡ f' → w ≡ w' → h ≡ h' → s ≡ s' → t ≡ t' → x ≡ x' → y ≡ y' → m ≡ m' → n ≡ n'
    → lattice_of_numbers f w h s t x y m n ≡ lattice_of_numbers f' w' h' s' t' x' y' m' n'
lattices_same f f' w w' h h' s s' t t' x x' y y' m m' n n' a b c d e g i j k = rw (a, b, c, d, e, g, i, j, k) refl

pub kept_as : (r l given : Lattice) (s z : ℤ) → l ≡ r → z ≡ s → KeepsPitch l z × HasFewPlaces l → given ≡ l → Ok given ≡ raster_with r s
kept_as r l given s z same spacing h is = rw (← same, ← spacing, is) (sym (kept l z h.0 h.1))

pub pitch_as : (r l : Lattice) (s z : ℤ) → l ≡ r → z ≡ s → ¬ KeepsPitch l z → Err BadPitch ≡ raster_with r s
pitch_as r l s z same spacing h = rw (← same, ← spacing) (sym (pitch_refused l z h))

pub places_as : (r l : Lattice) (s z : ℤ) → l ≡ r → z ≡ s → KeepsPitch l z × ¬ HasFewPlaces l → Err TooManyPlaces ≡ raster_with r s
places_as r l s z same spacing h = rw (← same, ← spacing) (sym (places_refused l z h.0 h.1))
