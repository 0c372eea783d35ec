-- The bands of one axis up to a line.
use Rattle.std.proofs.Common.{◌≡◌, refl, ◌∙◌, ℕ, suc, ◌+◌, ◌*◌, ◌/◌, ◌≤◌, ◌<◌, inl, inr, ℤ, pos, negsuc, ◌+ℤ◌, ◌-ℤ◌, ◌≤ℤ◌, ◌<ℤ◌, ◌↔◌, arith, w32, w64, Fits, FitsSigned}
use Rattle.std.specs.Int.{div_ceil, int_max, int_min}
use Rattle.std.proofs.lemmas.Bool.{cases_lt}
use Rattle.std.proofs.lemmas.Grind.{div_ceil_times}
use Rattle.std.proofs.lemmas.Int.{ints, clamps}
use Rattle.std.proofs.Math.Nat.{div-le_self, le-div_iff_mul-le, mul-le-mul}
use Rattle.fill_base.proofs.Distances.{distance}
use Rattle.fill_base.specs.Counts.{span_len}
use Rattle.fill_base.specs.Limits.{IsLength}
use Rattle.fill_base.proofs.Signed.{read, read_is}
use Rattle.fill_raster.specs.Axes.{box_begin, first, past, extent, bands, band_first, band_past, IsAxis}
use Rattle.fill_raster.specs.Level.{AreBegun, AreEnded}
use Rattle.fill_raster.specs.declared.axis.Axis.{Axis}
use Rattle.fill_raster.proofs.Bands.{bands_few, below_bands, starts_below}
use Rattle.fill_raster.proofs.Ranges.{extent_bounded}
use Rattle.fill_raster.proofs.Reading.{axis_read, first_read, past_read}

same : (n : ℕ) → n ≤ n
same n = omega arith

-- ---- the places before one

-- how many places of the raster lie before one
abbrev pub before : Axis → ℤ → ℕ
before a i = span_len (first a) (int_min i (past a))

pub before_reckoned : (a : Axis) (i f p m k : ℤ) (d : ℕ) → IsAxis a → FitsSigned w64 i → f ≡ first a → p ≡ past a → m ≡ int_min (read i) (read p) → k ≡ int_max (read f) (read m)
    → FitsSigned w64 m → FitsSigned w64 k → d ≡ distance (read f) (read k) → d ≡ before a i
before_reckoned a i f p m k d is i_fits f_is p_is m_is k_is m_fits k_fits d_is =
    let first_is : read f ≡ first a = rw f_is (first_read a is) in
    let past_is : read p ≡ past a = rw p_is (past_read a is) in
    let least : m ≡ int_min i (past a) = rw (read_is i i_fits, past_is) at m_is in
    let most : k ≡ int_max (first a) (int_min i (past a)) = k_is ∙ rw (first_is, read_is m m_fits, least) refl in
    d_is ∙ rw (first_is, read_is k k_fits, most) (apart (first a) (int_min i (past a)))
  where
    apart : (f z : ℤ) → distance f (int_max f z) ≡ span_len f z
    apart f z = omega (arith, ints, clamps)

pub before_read : (a : Axis) (i : ℤ) (n : ℕ) → FitsSigned w64 i → n ≡ before a (read i) → n ≡ before a i
before_read a i n fits n_is = rw (read_is i fits) at n_is

-- ---- counts of bands

-- a band begins before so many numbers exactly where it is one of their bands
begins_within : (n b g : ℕ) → 1 ≤ b → g * b < n → g < div_ceil n b
begins_within n b g some lt = elim (cases_lt g (div_ceil n b)) [
  | inl below ↦ below
  | inr above ↦ absurd (let row = mul-le-mul above (same b) in let h = (div_ceil_times n b some).0 in over (div_ceil n b * b) (g * b) n row h lt)
]
  where
    over : (c m n : ℕ) → c ≤ m → n ≤ c → m < n → ⊥
    over c m n h k l = omega arith

-- fewer numbers have no more bands
fewer_bands : (n e b : ℕ) → 1 ≤ b → n ≤ e → div_ceil n b ≤ div_ceil e b
fewer_bands n e b some le = elim (cases_lt (div_ceil e b) (div_ceil n b)) [
  | inl more ↦ absurd (let row : suc (div_ceil e b) * b ≤ div_ceil n b * b = mul-le-mul more (same b) in over (div_ceil e b) (div_ceil n b * b) n e b row (div_ceil_times n b some).1 (div_ceil_times e b some).0 le)
  | inr fine ↦ fine
]
  where
    over : (c m n e b : ℕ) → suc c * b ≤ m → m < n + b → e ≤ c * b → n ≤ e → ⊥
    over c m n e b h k l le = omega (arith, h)

before_few : (a : Axis) (i : ℤ) → before a i ≤ extent a
before_few a i = few (first a) (past a) i
  where
    few : (f p i : ℤ) → span_len f (int_min i p) ≤ span_len f p
    few f p i = omega (arith, ints, clamps)

-- ---- bands that begin below a line

pub begun_few : (a : Axis) (i : ℤ) → IsAxis a → div_ceil (before a i) a.band ≤ bands a
begun_few a i is = fewer_bands (before a i) (extent a) a.band is.band_is.least (before_few a i)

pub begun_fits : (a : Axis) (i : ℤ) (n b c : ℕ) → IsAxis a → n ≡ before a i → b ≡ a.band → c ≡ div_ceil n b → Fits w32 c
begun_fits a i n b c is n_is b_is c_is =
    rw (c_is, n_is, b_is) (small _ _ _ (begun_few a i is) (bands_few (extent a) a.band is.band_is.least) (extent_bounded a is))
  where
    small : (c d e : ℕ) → c ≤ d → d ≤ e → e ≤ 2147483648 → Fits w32 c
    small c d e h k l = omega arith

begun_exact : (a : Axis) (i : ℤ) (g : ℕ) → IsAxis a → g < bands a → (g < div_ceil (before a i) a.band) ↔ (band_first a g <ℤ i)
begun_exact a i g is lt = (
  (λ h. later (first a) (past a) i (g * a.band) (starts_below (before a i) a.band g is.band_is.least h)),
  (λ h. begins_within (before a i) a.band g is.band_is.least (within (first a) (past a) i (g * a.band) (starts_below (extent a) a.band g is.band_is.least lt) h)),
)
  where
    later : (f p i : ℤ) (m : ℕ) → m < span_len f (int_min i p) → (f +ℤ pos m) <ℤ i
    later f p i m h = omega (arith, ints, clamps)

    within : (f p i : ℤ) (m : ℕ) → m < span_len f p → (f +ℤ pos m) <ℤ i → m < span_len f (int_min i p)
    within f p i m h k = omega (arith, ints, clamps)

abbrev BeginsAt : Axis → ℤ → ℤ → Type 0
BeginsAt a z n = (i : ℤ) → (i <ℤ n → box_begin a i ≤ℤ z) × (box_begin a i ≤ℤ z → i <ℤ n)

line_fits : (z : ℤ) → negsuc 1074790399 ≤ℤ z → z ≤ℤ pos 1074790400 → FitsSigned w64 z
line_fits z h k = omega (arith, ints)

before_fits : (z : ℤ) → negsuc 1074790399 ≤ℤ z → z ≤ℤ pos 1074790400 → FitsSigned w64 (z -ℤ pos 1)
before_fits z h k = omega (arith, ints)

box_fits : (z length : ℤ) → negsuc 1074790399 ≤ℤ z → z ≤ℤ pos 1074790400 → IsLength length → FitsSigned w64 (z -ℤ length)
box_fits z length h k il = let a : pos 1 ≤ℤ length = il.least in let b : length ≤ℤ pos 1048576 = il.most in omega (arith, ints)

pub are_begun : (a : Axis) (line i : ℤ) (n b c : ℕ) → IsAxis a → negsuc 1074790399 ≤ℤ line → line ≤ℤ pos 1074790400 → BeginsAt a (read (read line -ℤ pos 1)) i
    → n ≡ before a i → b ≡ a.band → c ≡ div_ceil n b → AreBegun a line c
are_begun a line i n b c is least most at n_is b_is c_is =
    let e : read (read line -ℤ pos 1) ≡ line -ℤ pos 1 = rw (read_is line (line_fits line least most)) (read_is _ (before_fits line least most)) in
    let here : BeginsAt a (line -ℤ pos 1) i = rw e at at in
    rw (c_is, n_is, b_is) (record {
      few = begun_few a i is;
      begun = λ g lt. let x = begun_exact a i g is lt in ((λ h. lower _ line ((here _).0 (x.0 h))), (λ h. x.1 ((here _).1 (upper _ line h))));
    })
  where
    lower : (z line : ℤ) → z ≤ℤ (line -ℤ pos 1) → z <ℤ line
    lower z line h = omega (arith, ints)

    upper : (z line : ℤ) → z <ℤ line → z ≤ℤ (line -ℤ pos 1)
    upper z line h = omega (arith, ints)

-- ---- bands that end at a line or below it

-- the last place of a band lies before a place
abbrev LastBefore : Axis → ℤ → ℕ → Type 0
LastBefore a i g = (band_past a g -ℤ pos 1) <ℤ i

ended_at : (a : Axis) (line i : ℤ) (n : ℕ) → n ≤ bands a → BeginsAt a (line -ℤ a.length) i → ((g : ℕ) → g < bands a → (g < n) ↔ LastBefore a i g) → AreEnded a line n
ended_at a line i n few at h = record {
  few = few;
  ended = λ g lt. ((λ k. lower _ line a.length ((at _).0 ((h g lt).0 k))), (λ k. (h g lt).1 ((at _).1 (upper _ line a.length k))));
}
  where
    lower : (z line length : ℤ) → z ≤ℤ (line -ℤ length) → (z +ℤ length) ≤ℤ line
    lower z line length h = omega (arith, ints)

    upper : (z line length : ℤ) → (z +ℤ length) ≤ℤ line → z ≤ℤ (line -ℤ length)
    upper z line length h = omega (arith, ints)

box_line : (a : Axis) (line i : ℤ) → IsAxis a → negsuc 1074790399 ≤ℤ line → line ≤ℤ pos 1074790400 → BeginsAt a (read (read line -ℤ read a.length)) i → BeginsAt a (line -ℤ a.length) i
box_line a line i is least most at =
    let e : read (read line -ℤ read a.length) ≡ line -ℤ a.length = rw (read_is line (line_fits line least most), (axis_read a is).length_is) (read_is _ (box_fits line a.length least most is.length_is)) in
    rw e at at

-- all bands have ended where all places lie before that one
pub all_ended : (a : Axis) (line i : ℤ) (n e c : ℕ) → IsAxis a → negsuc 1074790399 ≤ℤ line → line ≤ℤ pos 1074790400 → BeginsAt a (read (read line -ℤ read a.length)) i
    → n ≡ before a i → e ≡ extent a → n ≡ e → c ≡ bands a → AreEnded a line c
all_ended a line i n e c is least most at n_is e_is all c_is =
    rw c_is (ended_at a line i (bands a) (same (bands a)) (box_line a line i is least most at)
    (λ g lt. ((λ _. last (first a) (past a) i (band_first a g) a.band (g * a.band) (starts_below (extent a) a.band g is.band_is.least lt) (rw (n_is, e_is) at all)), (λ _. lt))))
  where
    last : (f p i z : ℤ) (b m : ℕ) → m < span_len f p → span_len f (int_min i p) ≡ span_len f p → (int_min (z +ℤ pos b) p -ℤ pos 1) <ℤ i
    last f p i z b m some h = omega (arith, ints, clamps)

ended_exact : (a : Axis) (i : ℤ) (g : ℕ) → IsAxis a → before a i < extent a → (g < before a i / a.band) ↔ LastBefore a i g
ended_exact a i g is lt = (
  (λ h. within (first a) (past a) i (g * a.band) a.band is.band_is.least (rows g a.band (before a i) ((le-div_iff_mul-le is.band_is.least).0 h))),
  (λ h. (le-div_iff_mul-le is.band_is.least).1 (row g a.band (before a i) (whole (first a) (past a) i (g * a.band) a.band is.band_is.least lt h))),
)
  where
    rows : (g b n : ℕ) → suc g * b ≤ n → g * b + b ≤ n
    rows g b n h = omega (arith, h)

    row : (g b n : ℕ) → g * b + b ≤ n → suc g * b ≤ n
    row g b n h = omega (arith, h)

    within : (f p i : ℤ) (m b : ℕ) → 1 ≤ b → m + b ≤ span_len f (int_min i p) → (int_min ((f +ℤ pos m) +ℤ pos b) p -ℤ pos 1) <ℤ i
    within f p i m b some h = omega (arith, ints, clamps)

    whole : (f p i : ℤ) (m b : ℕ) → 1 ≤ b → span_len f (int_min i p) < span_len f p → (int_min ((f +ℤ pos m) +ℤ pos b) p -ℤ pos 1) <ℤ i → m + b ≤ span_len f (int_min i p)
    whole f p i m b some lt h = omega (arith, ints, clamps)

pub some_before : (a : Axis) (i : ℤ) (n e : ℕ) → n ≡ before a i → e ≡ extent a → ¬ (n ≡ e) → before a i < extent a
some_before a i n e n_is e_is other = below (before a i) (extent a) (before_few a i) (rw (n_is, e_is) at other)
  where
    both : (n e : ℕ) → n ≤ e → e ≤ n → n ≡ e
    both n e h k = omega arith

    below : (n e : ℕ) → n ≤ e → ¬ (n ≡ e) → n < e
    below n e h k = elim (cases_lt n e) [
      | inl lt ↦ lt
      | inr le ↦ absurd (k (both n e h le))
    ]

pub ended_fits : (a : Axis) (i : ℤ) (n b : ℕ) → IsAxis a → n ≡ before a i → Fits w32 (n / b)
ended_fits a i n b is n_is = rw n_is (small (before a i) (extent a) b (before_few a i) (extent_bounded a is))
  where
    small : (n e b : ℕ) → n ≤ e → e ≤ 2147483648 → Fits w32 (n / b)
    small n e b h k = let q = div-le_self n b in omega (arith, q)

pub are_ended : (a : Axis) (line i : ℤ) (n e b : ℕ) → IsAxis a → negsuc 1074790399 ≤ℤ line → line ≤ℤ pos 1074790400 → BeginsAt a (read (read line -ℤ read a.length)) i
    → n ≡ before a i → e ≡ extent a → ¬ (n ≡ e) → b ≡ a.band → AreEnded a line (n / b)
are_ended a line i n e b is least most at n_is e_is other b_is =
    let lt = some_before a i n e n_is e_is other in
    rw (n_is, b_is) (ended_at a line i (before a i / a.band) (less _ _ (below_bands (extent a) a.band (before a i) is.band_is.least lt)) (box_line a line i is least most at) (λ g _. ended_exact a i g is lt))
  where
    less : (n m : ℕ) → n < m → n ≤ m
    less n m h = omega arith
