-- Places of one axis as the code reckons them.
use Rattle.std.proofs.Common.{◌≡◌, ℕ, ◌*◌, ◌/◌, ◌^◌, ◌≤◌, ◌<◌, ℤ, pos, negsuc, neg_ℤ, ◌+ℤ◌, ◌-ℤ◌, ◌*ℤ◌, ◌≤ℤ◌, ◌<ℤ◌, arith, ap, ◌∙◌, sym, refl, true, ◌&&◌, w32, w64, Fits, FitsSigned, ◌↔◌}
use Rattle.std.specs.Prelude.{int_le, int_lt, IsTrue}
use Rattle.std.specs.Int.{int_max, int_min, int_div_euclid, div_ceil}
use Rattle.std.proofs.lemmas.Int.{ints, clamps}
use Rattle.std.proofs.Math.Nat.{div-le_self}
use Rattle.fill_base.specs.Coordinates.{lowest, highest, IsCoordinate}
use Rattle.fill_base.proofs.Distances.{distance, distance_is}
use Rattle.fill_base.specs.Counts.{span_len}
use Rattle.fill_base.specs.Limits.{IsLength, IsSpacing}
use Rattle.fill_base.proofs.Signed.{read, read_is, pos_fits, lt_le, le_trans, coordinate_fits}
use Rattle.fill_raster.specs.Axes.{box_begin, box_end, is_on, first, past, extent, bands, band_of, band_first, band_past, band_end, IsAxis, IsPitch}
use Rattle.fill_raster.specs.declared.axis.Axis.{Axis}
use Rattle.fill_raster.proofs.Ranges.{IsIn, IsWithin, IsPlaceNumber, le_true, true_le, on_in, in_on, on_within, within_on, on_range, last, last_bounded, first_bounded, first_past, past_bounded, extent_bounded}
use Rattle.fill_raster.proofs.Bands.{apart_below, first_in, last_in, bands_few, starts_below}

-- ---- numbers that fit

length_fits : (z : ℤ) → IsLength z → FitsSigned w64 z
length_fits z is = let low : pos 1 ≤ℤ z = is.least in let high : z ≤ℤ pos 1048576 = is.most in omega (arith, ints, clamps)

place_fits : (z : ℤ) → IsPlaceNumber z → FitsSigned w64 z
place_fits z is = let low : negsuc 2147483647 ≤ℤ z = is.least in let high : z ≤ℤ pos 2147483648 = is.most in omega (arith, ints, clamps)

spacing_fits : (s : ℤ) → IsSpacing s → FitsSigned w64 s
spacing_fits s is = let low : pos 0 ≤ℤ s = is.least in let high : s ≤ℤ pos 1048576 = is.most in omega (arith, ints, clamps)

pub length_read : (z : ℤ) → IsLength z → read z ≡ z
length_read z is = read_is z (length_fits z is)

pub spacing_read : (s : ℤ) → IsSpacing s → read s ≡ s
spacing_read s is = read_is s (spacing_fits s is)

pub coordinate_read : (z : ℤ) → IsCoordinate z → read z ≡ z
coordinate_read z is = read_is z (coordinate_fits z is.least is.most)

-- the numbers of an axis, read back
pub record AxisRead (a : Axis) : Type 0 where
  pub low_is : read a.low ≡ a.low
  pub high_is : read a.high ≡ a.high
  pub length_is : read a.length ≡ a.length
  pub step_is : read a.step ≡ a.step
  pub origin_is : read a.origin ≡ a.origin

pub axis_read : (a : Axis) → IsAxis a → AxisRead a
axis_read a is = record {
  low_is = read_is a.low (coordinate_fits a.low is.least (le_trans a.low a.high _ (lt_le a.low a.high is.ordered) is.most));
  high_is = read_is a.high (coordinate_fits a.high (le_trans _ a.low a.high is.least (lt_le a.low a.high is.ordered)) is.most);
  length_is = length_read a.length is.length_is;
  step_is = length_read a.step is.step_is;
  origin_is = coordinate_read a.origin is.origin_is;
}

pub first_read : (a : Axis) → IsAxis a → read (first a) ≡ first a
first_read a is = read_is (first a) (place_fits (first a) (first_bounded a is))

pub past_read : (a : Axis) → IsAxis a → read (past a) ≡ past a
past_read a is = read_is (past a) (place_fits (past a) (past_bounded a is))

-- ---- the pitch

pub pitch_test : (a : Axis) (s : ℤ) → IsAxis a → IsSpacing s → IsTrue (int_le (read (read a.length +ℤ read s)) (read a.step)) ↔ IsPitch a s
pitch_test a s is spacing =
    let r = axis_read a is in
    let s_is = spacing_read s spacing in
    let sum : read (a.length +ℤ s) ≡ a.length +ℤ s = read_is (a.length +ℤ s) (sum_fits a.length s is.length_is spacing) in
    rw (r.length_is, r.step_is, s_is, sum) ((λ h. true_le _ _ h), (λ h. le_true _ _ h))
  where
    sum_fits : (l s : ℤ) → IsLength l → IsSpacing s → FitsSigned w64 (l +ℤ s)
    sum_fits l s il is =
        let a : pos 1 ≤ℤ l = il.least in let b : l ≤ℤ pos 1048576 = il.most in
        let low : pos 0 ≤ℤ s = is.least in let high : s ≤ℤ pos 1048576 = is.most in omega (arith, ints, clamps)

-- ---- the ends of the range of places

pub first_reckoned : (a : Axis) (q : ℤ) → IsAxis a → q ≡ int_div_euclid (read (read a.origin -ℤ read a.low)) (read a.step)
    → FitsSigned w64 (pos 0 -ℤ read q) × (read (pos 0 -ℤ read q) ≡ first a)
unfolding first
first_reckoned a q is q_is =
    let r = axis_read a is in
    let gap : read (a.origin -ℤ a.low) ≡ a.origin -ℤ a.low = read_is _ (gap_fits a.origin a.low is.origin_is.least is.origin_is.most is.least (le_trans a.low a.high _ (lt_le a.low a.high is.ordered) is.most)) in
    let e : q ≡ int_div_euclid (a.origin -ℤ a.low) a.step = rw (r.origin_is, r.low_is, r.step_is, gap) at q_is in
    let f = first_bounded a is in
    let b : IsPlaceNumber (neg_ℤ q) = rw e f in
    let fits : FitsSigned w64 q = turned_fits q b.least b.most in
    let turned : pos 0 -ℤ q ≡ neg_ℤ q = omega (arith, ints, clamps) in
    rw (read_is q fits, turned) (place_fits (neg_ℤ q) b, read_is (neg_ℤ q) (place_fits (neg_ℤ q) b) ∙ ap neg_ℤ e)
  where
    gap_fits : (origin edge : ℤ) → lowest ≤ℤ origin → origin ≤ℤ highest → lowest ≤ℤ edge → edge ≤ℤ highest → FitsSigned w64 (origin -ℤ edge)
    gap_fits origin edge h k l m = omega (arith, ints, clamps)

    turned_fits : (q : ℤ) → negsuc 2147483647 ≤ℤ neg_ℤ q → neg_ℤ q ≤ℤ pos 2147483648 → FitsSigned w64 q
    turned_fits q h k = omega (arith, ints, clamps)

pub last_reckoned : (a : Axis) (q : ℤ) → IsAxis a → q ≡ int_div_euclid (read (read (read a.high -ℤ read a.length) -ℤ read a.origin)) (read a.step) → q ≡ last a
last_reckoned a q is q_is =
    let r = axis_read a is in
    let shorter : read (a.high -ℤ a.length) ≡ a.high -ℤ a.length = read_is _ (short_fits a.high a.length is.most (le_trans _ a.low a.high is.least (lt_le a.low a.high is.ordered)) is.length_is) in
    let gap : read ((a.high -ℤ a.length) -ℤ a.origin) ≡ (a.high -ℤ a.length) -ℤ a.origin =
    read_is _ (gap_fits a.high a.length a.origin is.most (le_trans _ a.low a.high is.least (lt_le a.low a.high is.ordered)) is.length_is is.origin_is.least is.origin_is.most) in
    rw (r.high_is, r.length_is, r.origin_is, r.step_is, shorter, gap) at q_is
  where
    short_fits : (limit length : ℤ) → limit ≤ℤ highest → lowest ≤ℤ limit → IsLength length → FitsSigned w64 (limit -ℤ length)
    short_fits limit length h k il = let a : pos 1 ≤ℤ length = il.least in let b : length ≤ℤ pos 1048576 = il.most in omega (arith, ints, clamps)

    gap_fits : (limit length origin : ℤ) → limit ≤ℤ highest → lowest ≤ℤ limit → IsLength length → lowest ≤ℤ origin → origin ≤ℤ highest → FitsSigned w64 ((limit -ℤ length) -ℤ origin)
    gap_fits limit length origin h k il l m = let a : pos 1 ≤ℤ length = il.least in let b : length ≤ℤ pos 1048576 = il.most in omega (arith, ints, clamps)

pub last_next : (a : Axis) (q : ℤ) → IsAxis a → q ≡ last a → FitsSigned w64 (read q +ℤ pos 1) × (read (read q +ℤ pos 1) ≡ last a +ℤ pos 1)
last_next a q is q_is =
    let b = last_bounded a is in
    rw (q_is, read_is (last a) (fits (last a) b.0 b.1), read_is (last a +ℤ pos 1) (next_fits (last a) b.0 b.1)) (next_fits (last a) b.0 b.1, refl)
  where
    fits : (q : ℤ) → negsuc 2148532223 ≤ℤ q → q ≤ℤ pos 2147483647 → FitsSigned w64 q
    fits q h k = omega (arith, ints, clamps)

    next_fits : (q : ℤ) → negsuc 2148532223 ≤ℤ q → q ≤ℤ pos 2147483647 → FitsSigned w64 (q +ℤ pos 1)
    next_fits q h k = omega (arith, ints, clamps)

pub past_reckoned : (a : Axis) (f q m : ℤ) → IsAxis a → f ≡ first a → q ≡ last a → m ≡ int_max (read f) (read (read q +ℤ pos 1)) → read m ≡ past a
unfolding past
past_reckoned a f q m is f_is q_is m_is =
    let e : m ≡ past a = m_is ∙ rw (f_is, first_read a is, (last_next a q is q_is).1) refl in
    ap read e ∙ past_read a is

-- ---- the box of a place

pub record BoxFits (a : Axis) (i : ℤ) : Type 0 where
  pub far : FitsSigned w64 (i *ℤ a.step)
  pub begins : FitsSigned w64 (box_begin a i)
  pub ends : FitsSigned w64 (box_end a i)

pub box_fits : (a : Axis) (i : ℤ) → IsAxis a → IsWithin a i → BoxFits a i
box_fits a i is w = record {
  far = product_fits a.low a.high a.length a.origin (i *ℤ a.step) is.least is.most is.length_is.least is.origin_is.least is.origin_is.most w.begins w.ends;
  begins = begin_fits a.low a.high a.length (box_begin a i) is.least is.most is.length_is.least w.begins w.ends;
  ends = end_fits a.low a.high a.length (box_begin a i) is.least is.most is.length_is.least w.begins w.ends;
}
  where
    product_fits : (edge limit length origin m : ℤ) → lowest ≤ℤ edge → limit ≤ℤ highest → pos 1 ≤ℤ length → lowest ≤ℤ origin → origin ≤ℤ highest → edge ≤ℤ (origin +ℤ m) → ((origin +ℤ m) +ℤ length) ≤ℤ limit → FitsSigned w64 m
    product_fits edge limit length origin m a b c d e f g = omega (arith, ints, clamps)

    begin_fits : (edge limit length z : ℤ) → lowest ≤ℤ edge → limit ≤ℤ highest → pos 1 ≤ℤ length → edge ≤ℤ z → (z +ℤ length) ≤ℤ limit → FitsSigned w64 z
    begin_fits edge limit length z a b c d e = omega (arith, ints, clamps)

    end_fits : (edge limit length z : ℤ) → lowest ≤ℤ edge → limit ≤ℤ highest → pos 1 ≤ℤ length → edge ≤ℤ z → (z +ℤ length) ≤ℤ limit → FitsSigned w64 (z +ℤ length)
    end_fits edge limit length z a b c d e = omega (arith, ints, clamps)

in_number : (a : Axis) (i : ℤ) → IsAxis a → IsIn a i → IsPlaceNumber i
in_number a i is within =
    let f = first_bounded a is in let p = past_bounded a is in
    number (first a) (past a) i f.least p.most within.low within.high
  where
    number : (f p i : ℤ) → negsuc 2147483647 ≤ℤ f → p ≤ℤ pos 2147483648 → f ≤ℤ i → i <ℤ p → IsPlaceNumber i
    number f p i a b c d = record { least = omega (arith, ints, clamps); most = omega (arith, ints, clamps) }

pub place_in_fits : (a : Axis) (i : ℤ) → IsAxis a → IsIn a i → FitsSigned w64 i
place_in_fits a i is within = place_fits i (in_number a i is within)

pub place_read : (a : Axis) (i : ℤ) → IsAxis a → IsIn a i → read i ≡ i
place_read a i is within = read_is i (place_in_fits a i is within)

pub begin_reckoned : (a : Axis) (i : ℤ) → IsAxis a → is_on a i ≡ true
    → FitsSigned w64 (read a.origin +ℤ read (read i *ℤ read a.step)) × (read (read a.origin +ℤ read (read i *ℤ read a.step)) ≡ box_begin a i)
begin_reckoned a i is on =
    let r = axis_read a is in
    let w = on_within a i on in
    let b = box_fits a i is w in
    rw (r.origin_is, r.step_is, place_read a i is (on_in a i is.step_is.least w), read_is (i *ℤ a.step) b.far) (b.begins, read_is (box_begin a i) b.begins)

pub end_reckoned : (a : Axis) (i z : ℤ) → IsAxis a → is_on a i ≡ true → z ≡ box_begin a i → FitsSigned w64 (read z +ℤ read a.length) × (read (read z +ℤ read a.length) ≡ box_end a i)
end_reckoned a i z is on z_is =
    let r = axis_read a is in
    let b = box_fits a i is (on_within a i on) in
    rw (z_is, r.length_is, read_is (box_begin a i) b.begins) (b.ends, read_is (box_end a i) b.ends)

pub has_reckoned : (a : Axis) (i f p : ℤ) → IsAxis a → FitsSigned w64 i → f ≡ first a → p ≡ past a → int_le (read f) (read i) && int_lt (read i) (read p) ≡ is_on a i
has_reckoned a i f p is fits f_is p_is = rw (f_is, p_is, first_read a is, past_read a is, read_is i fits) (sym (on_range a i is.step_is.least))

-- ---- bands

band_count_fits : (e g : ℕ) → e ≤ 2147483648 → 1 ≤ g → Fits w32 (div_ceil e g)
band_count_fits e g few some = let h = bands_few e g some in small (div_ceil e g) e h few
  where
    small : (c e : ℕ) → c ≤ e → e ≤ 2147483648 → Fits w32 c
    small c e h few = omega (arith, h)

pub bands_fit : (a : Axis) (e b c : ℕ) → IsAxis a → e ≡ extent a → b ≡ a.band → c ≡ div_ceil e b → Fits w32 c
bands_fit a e b c is e_is b_is c_is = rw (c_is, e_is, b_is) (band_count_fits (extent a) a.band (extent_bounded a is) is.band_is.least)

pub extent_is : (a : Axis) (p f : ℤ) (d : ℕ) → IsAxis a → p ≡ past a → f ≡ first a → d ≡ distance (read f) (read p) → d ≡ extent a
extent_is a p f d is p_is f_is d_is =
    let far : d ≡ distance (first a) (past a) = rw (f_is, p_is, first_read a is, past_read a is) at d_is in
    far ∙ distance_is (first a) (past a) (first_past a)

pub band_of_fits : (a : Axis) (i f : ℤ) (d b : ℕ) → IsAxis a → is_on a i ≡ true → f ≡ first a → d ≡ distance (read f) (read i) → b ≡ a.band → Fits w32 (d / b) × (d / b ≡ band_of a i)
band_of_fits a i f d b is on f_is d_is b_is =
    let within = on_in a i is.step_is.least (on_within a i on) in
    let far : d ≡ distance (first a) i = rw (f_is, first_read a is, place_read a i is within) at d_is in
    let e : d ≡ span_len (first a) i = far ∙ distance_is (first a) i within.low in
    rw (e, b_is) (small (span_len (first a) i) (extent a) a.band (apart_below a i within) (extent_bounded a is), refl)
  where
    small : (n e b : ℕ) → n < e → e ≤ 2147483648 → Fits w32 (n / b)
    small n e b lt few = let q = div-le_self n b in omega (arith, q)

-- the first place of a band
pub band_first_reckoned : (a : Axis) (g : ℕ) (f m n : ℤ) → IsAxis a → g < bands a → f ≡ first a → m ≡ pos g → n ≡ pos a.band
    → FitsSigned w64 (read f +ℤ read (read m *ℤ read n)) × (read (read f +ℤ read (read m *ℤ read n)) ≡ band_first a g) × FitsSigned w64 (read m *ℤ read n)
band_first_reckoned a g f m n is lt f_is m_is n_is =
    let within = first_in a g is.band_is.least lt in
    let most = starts_below (extent a) a.band g is.band_is.least lt in
    let few = extent_bounded a is in
    let g_few : g ≤ 2147483648 = below_few g (bands a) (extent a) lt (bands_few (extent a) a.band is.band_is.least) few in
    let row_fits = pos_fits (g * a.band) (less (g * a.band) (extent a) most few) in
    rw (f_is, m_is, n_is, first_read a is, read_is (pos g) (small_fits g g_few), read_is (pos a.band) (band_fits a.band is.band_is.most), read_is (pos (g * a.band)) row_fits)
    (place_in_fits a (band_first a g) is within, place_read a (band_first a g) is within, row_fits)
  where
    below_few : (g c e : ℕ) → g < c → c ≤ e → e ≤ 2147483648 → g ≤ 2147483648
    below_few g c e h k l = omega (arith, h, k, l)

    less : (m e : ℕ) → m < e → e ≤ 2147483648 → m < 2 ^ 63
    less m e h k = omega (arith, h, k)

    small_fits : (g : ℕ) → g ≤ 2147483648 → FitsSigned w64 (pos g)
    small_fits g h = omega (arith, ints, clamps)

    band_fits : (g : ℕ) → g ≤ 4096 → FitsSigned w64 (pos g)
    band_fits g h = omega (arith, ints, clamps)

pub first_place_read : (a : Axis) (g : ℕ) → IsAxis a → g < bands a → read (band_first a g) ≡ band_first a g
first_place_read a g is lt = place_read a (band_first a g) is (first_in a g is.band_is.least lt)

-- the place past the last of a band
pub past_place_read : (a : Axis) (g : ℕ) → IsAxis a → g < bands a → read (band_past a g) ≡ band_past a g
past_place_read a g is lt =
    let last = in_number a (band_past a g -ℤ pos 1) is (last_in a g is.band_is.least lt) in
    read_is (band_past a g) (next_fits (band_past a g) last)
  where
    next_fits : (z : ℤ) → IsPlaceNumber (z -ℤ pos 1) → FitsSigned w64 z
    next_fits z is = let low : negsuc 2147483647 ≤ℤ (z -ℤ pos 1) = is.least in let high : (z -ℤ pos 1) ≤ℤ pos 2147483648 = is.most in omega (arith, ints, clamps)

pub band_past_reckoned : (a : Axis) (g : ℕ) (z n p m : ℤ) → IsAxis a → g < bands a → z ≡ band_first a g → n ≡ pos a.band → p ≡ past a
    → FitsSigned w64 (read z +ℤ read n) × (m ≡ int_min (read (read z +ℤ read n)) (read p) → read m ≡ band_past a g)
band_past_reckoned a g z n p m is lt z_is n_is p_is =
    let within = first_in a g is.band_is.least lt in
    let number = in_number a (band_first a g) is within in
    let plus = past_fits (band_first a g) a.band number is.band_is.most in
    rw (z_is, n_is, p_is, past_read a is, place_read a (band_first a g) is within, read_is (pos a.band) (band_fits a.band is.band_is.most), read_is (band_first a g +ℤ pos a.band) plus)
    (plus, λ m_is. rw m_is (read_is (band_past a g) (place_fits (band_past a g) (least (band_first a g) (past a) a.band number (past_bounded a is)))))
  where
    band_fits : (g : ℕ) → g ≤ 4096 → FitsSigned w64 (pos g)
    band_fits g h = omega (arith, ints, clamps)

    past_fits : (z : ℤ) (b : ℕ) → IsPlaceNumber z → b ≤ 4096 → FitsSigned w64 (z +ℤ pos b)
    past_fits z b is few = let low : negsuc 2147483647 ≤ℤ z = is.least in let high : z ≤ℤ pos 2147483648 = is.most in omega (arith, ints, clamps)

    least : (z p : ℤ) (b : ℕ) → IsPlaceNumber z → IsPlaceNumber p → IsPlaceNumber (int_min (z +ℤ pos b) p)
    least z p b iz ip =
        let low : negsuc 2147483647 ≤ℤ z = iz.least in let under : negsuc 2147483647 ≤ℤ p = ip.least in let high : p ≤ℤ pos 2147483648 = ip.most in
        record { least = omega (arith, ints, clamps); most = omega (arith, ints, clamps) }

-- ---- the edges of a band

pub first_on : (a : Axis) (g : ℕ) (z : ℤ) → IsAxis a → g < bands a → z ≡ band_first a g → is_on a (read z) ≡ true
first_on a g z is lt z_is =
    let within = first_in a g is.band_is.least lt in
    rw (z_is, place_read a (band_first a g) is within) (within_on a (band_first a g) (in_on a (band_first a g) is.step_is.least within))

pub last_on : (a : Axis) (g : ℕ) (z : ℤ) → IsAxis a → g < bands a → z ≡ band_past a g
    → FitsSigned w64 (read z -ℤ pos 1) × (read (read z -ℤ pos 1) ≡ band_past a g -ℤ pos 1) × (is_on a (read (read z -ℤ pos 1)) ≡ true)
last_on a g z is lt z_is =
    let within = last_in a g is.band_is.least lt in
    let number = in_number a (band_past a g -ℤ pos 1) is within in
    let next = next_fits (band_past a g) number in
    rw (z_is, read_is (band_past a g) next, place_read a (band_past a g -ℤ pos 1) is within)
    (place_fits _ number, refl, within_on a (band_past a g -ℤ pos 1) (in_on a (band_past a g -ℤ pos 1) is.step_is.least within))
  where
    next_fits : (z : ℤ) → IsPlaceNumber (z -ℤ pos 1) → FitsSigned w64 z
    next_fits z is = let low : negsuc 2147483647 ≤ℤ (z -ℤ pos 1) = is.least in let high : (z -ℤ pos 1) ≤ℤ pos 2147483648 = is.most in omega (arith, ints, clamps)

pub far_fits : (a : Axis) (i : ℤ) → IsAxis a → is_on a i ≡ true → FitsSigned w64 (read i *ℤ read a.step)
far_fits a i is on =
    let w = on_within a i on in
    rw ((axis_read a is).step_is, place_read a i is (on_in a i is.step_is.least w)) (box_fits a i is w).far

pub end_read : (a : Axis) (g : ℕ) (z e : ℤ) → IsAxis a → g < bands a → z ≡ band_past a g → e ≡ box_end a (read (read z -ℤ pos 1)) → read e ≡ band_end a g
end_read a g z e is lt z_is e_is =
    let l = last_on a g z is lt z_is in
    let on : is_on a (band_past a g -ℤ pos 1) ≡ true = rw l.1 at l.2 in
    let b = box_fits a (band_past a g -ℤ pos 1) is (on_within a _ on) in
    rw (e_is, l.1) (read_is (band_end a g) b.ends)

-- ---- boxes as rectangles

pub box_begin_read : (a : Axis) (i z : ℤ) → IsAxis a → is_on a i ≡ true → z ≡ box_begin a (read i) → read z ≡ box_begin a i
box_begin_read a i z is on z_is =
    let w = on_within a i on in
    rw (z_is, place_read a i is (on_in a i is.step_is.least w)) (read_is (box_begin a i) (box_fits a i is w).begins)

pub box_end_read : (a : Axis) (i z : ℤ) → IsAxis a → is_on a i ≡ true → z ≡ box_end a (read i) → read z ≡ box_end a i
box_end_read a i z is on z_is =
    let w = on_within a i on in
    rw (z_is, place_read a i is (on_in a i is.step_is.least w)) (read_is (box_end a i) (box_fits a i is w).ends)

-- a box is a range within the coordinates
pub record BoxRange (a : Axis) (i : ℤ) : Type 0 where
  pub some : box_begin a i <ℤ box_end a i
  pub least : lowest ≤ℤ box_begin a i
  pub most : box_end a i ≤ℤ highest

pub box_range : (a : Axis) (i : ℤ) → IsAxis a → is_on a i ≡ true → BoxRange a i
box_range a i is on =
    let w = on_within a i on in
    record { some = longer (box_begin a i) a.length is.length_is.least; least = le_trans _ a.low _ is.least w.begins; most = le_trans _ a.high _ w.ends is.most }
  where
    longer : (z length : ℤ) → pos 1 ≤ℤ length → z <ℤ (z +ℤ length)
    longer z length one = omega (arith, ints, clamps)
