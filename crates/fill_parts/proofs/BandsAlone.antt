-- The places of some bands of an axis.
use Rattle.std.proofs.Common.{◌≡◌, refl, sym, ap, subst, ◌∙◌, ℕ, zero, suc, ◌+◌, ◌-◌, ◌*◌, ◌/◌, ◌≤◌, ◌<◌, ◌==◌, ℤ, pos, neg_ℤ, ◌+ℤ◌, ◌-ℤ◌, ◌*ℤ◌, ◌≤ℤ◌, ◌<ℤ◌, arith, Bool, true, false, inl, inr}
use Rattle.std.specs.Prelude.{if◌then◌else◌}
use Rattle.std.specs.Int.{int_max, int_min, int_div_euclid}
use Rattle.std.proofs.lemmas.Bool.{cases_Bool, eq-eqb, eqb-true}
use Rattle.std.proofs.lemmas.Bool.Decides.{nat_tests}
use Rattle.std.proofs.lemmas.Grind.{div_ceil_times}
use Rattle.std.proofs.lemmas.Int.{ints, clamps, by_lt_z}
use Rattle.std.proofs.lemmas.Nat.{div_below}
use Rattle.std.proofs.Math.Nat.{add-mul, mul-le-mul}
use Rattle.fill_base.specs.Counts.{span_len}
use Rattle.fill_raster.specs.Axes.{IsAxis, first, past, extent, bands, band_of, band_first, band_past, band_begin, band_end, box_begin, box_end}
use Rattle.fill_raster.specs.declared.axis.Axis.{Axis}
use Rattle.fill_raster.proofs.Bands.{first_in, last_in, first_before_last, in_band_of, band_is}
use Rattle.fill_raster.proofs.Floors.{product_le, floor_within, within_floor, product_lt, neg_product}
use Rattle.fill_raster.proofs.Ranges.{IsIn, first_past, in_on}
use Rattle.fill_parts.specs.Smaller.{AreRowsOf, Rows, AreSome, bands_alone}

-- ---- where they begin and where they end

floor_is : (n z s : ℤ) → pos 1 ≤ℤ s → z ≡ n *ℤ s → int_div_euclid z s ≡ n
floor_is n z s some is = both (int_div_euclid z s) n least (by_lt_z n (int_div_euclid z s) (λ lt. absurd (over lt)) (λ le. le))
  where
    both : (a b : ℤ) → b ≤ℤ a → a ≤ℤ b → a ≡ b
    both a b h k = omega (arith, ints)

    same : (a : ℤ) → a ≤ℤ a
    same a = omega (arith, ints)

    least : n ≤ℤ int_div_euclid z s
    least = within_floor n z s some (rw is (same (n *ℤ s)))

    over : n <ℤ int_div_euclid z s → ⊥
    over lt = beyond (n *ℤ s) (int_div_euclid z s *ℤ s) z s some (product_lt n (int_div_euclid z s) s some lt) (floor_within (int_div_euclid z s) z s some (same (int_div_euclid z s))) is
      where
        beyond : (m q z s : ℤ) → pos 1 ≤ℤ s → (m +ℤ s) ≤ℤ q → q ≤ℤ z → z ≡ m → ⊥
        beyond m q z s h k l e = omega (arith, ints)

-- the first place of an axis whose frame begins with the box of a place
begins_with : (a : Axis) (j : ℤ) → pos 1 ≤ℤ a.step → neg_ℤ (int_div_euclid (a.origin -ℤ box_begin a j) a.step) ≡ j
begins_with a j some = ap neg_ℤ (floor_is (neg_ℤ j) (a.origin -ℤ box_begin a j) a.step some (less a.origin (j *ℤ a.step) ∙ sym (neg_product j a.step))) ∙ twice j
  where
    less : (o m : ℤ) → (o -ℤ (o +ℤ m)) ≡ neg_ℤ m
    less o m = omega (arith, ints, clamps)

    twice : (j : ℤ) → neg_ℤ (neg_ℤ j) ≡ j
    twice j = omega (arith, ints, clamps)

-- and the one past the last, where it ends with the box of a place
ends_with : (a : Axis) (j : ℤ) → pos 1 ≤ℤ a.step → int_div_euclid ((box_end a j -ℤ a.length) -ℤ a.origin) a.step ≡ j
ends_with a j some = floor_is j ((box_end a j -ℤ a.length) -ℤ a.origin) a.step some (less a.origin (j *ℤ a.step) a.length)
  where
    less : (o m l : ℤ) → ((((o +ℤ m) +ℤ l) -ℤ l) -ℤ o) ≡ m
    less o m l = omega (arith, ints, clamps)

first_from : (a : Axis) (n : ℕ) (high : ℤ) → pos 1 ≤ℤ a.step → first (record a { low = if n == 0 then a.low else band_begin a n; high = high }) ≡ band_first a n
unfolding first
first_from a zero high some = plain (neg_ℤ (int_div_euclid (a.origin -ℤ a.low) a.step)) ∙ ap (λ m. neg_ℤ (int_div_euclid (a.origin -ℤ a.low) a.step) +ℤ pos m) (none a.band)
  where
    none : (b : ℕ) → 0 ≡ 0 * b
    none b = omega arith

    plain : (z : ℤ) → z ≡ z +ℤ pos 0
    plain z = omega (arith, ints)
first_from a (suc n) high some = rw (above n) (begins_with a (band_first a (suc n)) some)
  where
    above : (n : ℕ) → (suc n == 0) ≡ false
    above n = grind (arith, nat_tests)

pub first_alone : (a : Axis) (rows : Rows) → pos 1 ≤ℤ a.step → first (bands_alone a rows) ≡ band_first a rows.from
first_alone a rows some = first_from a rows.from (if rows.to == bands a then a.high else band_end a (rows.to - 1)) some

-- the bands go up to the last place
bands_reach : (a : Axis) (n : ℕ) → 1 ≤ a.band → n < bands a → suc n ≡ bands a → band_past a n ≡ past a
bands_reach a n some lt is =
    let all = (div_ceil_times (extent a) a.band some).0 in
    reach (first a) (past a) n a.band (first_past a) (rw (← is) at all)
  where
    reach : (f p : ℤ) (n b : ℕ) → f ≤ℤ p → span_len f p ≤ suc n * b → int_min ((f +ℤ pos (n * b)) +ℤ pos b) p ≡ p
    reach f p n b le all = far (n * b) (suc n * b) (next n b) all
      where
        next : (n b : ℕ) → suc n * b ≡ n * b + b
        next n b = omega arith

        far : (m k : ℕ) → k ≡ m + b → span_len f p ≤ k → int_min ((f +ℤ pos m) +ℤ pos b) p ≡ p
        far m k e h = omega (arith, ints, clamps, le)

-- a higher band begins no lower
pub bands_rise : (a : Axis) (g h : ℕ) → g ≤ h → band_first a g ≤ℤ band_first a h
bands_rise a g h le = more (first a) (g * a.band) (h * a.band) (mul-le-mul le (same a.band))
  where
    same : (n : ℕ) → n ≤ n
    same n = omega arith

    more : (f : ℤ) (m n : ℕ) → m ≤ n → (f +ℤ pos m) ≤ℤ (f +ℤ pos n)
    more f m n le = omega (arith, ints)

pub past_alone : (a : Axis) (rows : Rows) → pos 1 ≤ℤ a.step → 1 ≤ a.band → AreSome rows (bands a) → past (bands_alone a rows) ≡ band_past a (rows.to - 1)
unfolding past
past_alone a rows step some are = elim (cases_Bool (rows.to == bands a)) [
  | inl all ↦ rw (all, first_from a rows.from a.high step) (whole (eqb-true rows.to (bands a) all))
  | inr not ↦ rw (not, first_from a rows.from (band_end a (rows.to - 1)) step, ends_with a (band_past a (rows.to - 1) -ℤ pos 1) step) (part (band_first a rows.from) (band_past a (rows.to - 1)) before)
]
  where
    last : ℤ
    last = int_div_euclid ((a.high -ℤ a.length) -ℤ a.origin) a.step

    begun : IsIn a (band_first a rows.from)
    begun = first_in a rows.from some (let s = are.some in let w = are.within in omega (arith, s, w))

    below : rows.to - 1 < bands a
    below = let s = are.some in let w = are.within in omega (arith, s, w)

    before : band_first a rows.from <ℤ band_past a (rows.to - 1)
    before = up (band_first a rows.from) (band_first a (rows.to - 1)) (band_past a (rows.to - 1)) (bands_rise a rows.from (rows.to - 1) (let s = are.some in omega (arith, s))) (first_before_last a (rows.to - 1) some below)
      where
        up : (f g p : ℤ) → f ≤ℤ g → g <ℤ p → f <ℤ p
        up f g p h k = omega (arith, ints)

    part : (f p : ℤ) → f <ℤ p → int_max f ((p -ℤ pos 1) +ℤ pos 1) ≡ p
    part f p lt = omega (arith, ints, clamps)

    whole : rows.to ≡ bands a → int_max (band_first a rows.from) (last +ℤ pos 1) ≡ band_past a (rows.to - 1)
    whole is = up (first a) (band_first a rows.from) last (past a) refl begun.low begun.high ∙ sym (bands_reach a (rows.to - 1) some below (next rows.from rows.to (bands a) are.some is))
      where
        next : (f t b : ℕ) → f < t → t ≡ b → suc (t - 1) ≡ b
        next f t b lt e = omega (arith, lt, e)

        up : (f g l p : ℤ) → p ≡ int_max f (l +ℤ pos 1) → f ≤ℤ g → g <ℤ p → int_max g (l +ℤ pos 1) ≡ p
        up f g l p is h k = omega (arith, ints, clamps)

-- ---- which places they are

-- a place of those bands is one of the axis, in a band that has so many others below it
pub record IsAlone (a : Axis) (rows : Rows) (i : ℤ) : Type 0 where
  pub there : IsIn a i
  pub band : band_of a i ≡ rows.from + band_of (bands_alone a rows) i
  pub below : band_of a i < rows.to

moved_band : (n m f b : ℕ) → 1 ≤ b → m ≡ f * b → m ≤ n → n / b ≡ f + (n - m) / b
moved_band n m f b some is le =
    let k = in_band_of (n - m) b some in
    band_is n b (f + (n - m) / b) some (rw (split f ((n - m) / b) b, ← is) (omega (arith, le, k.0))) (rw (split f ((n - m) / b) b, ← is) (omega (arith, le, k.1)))
  where
    split : (f g b : ℕ) → (f + g) * b ≡ f * b + g * b
    split f g b = add-mul f g b

pub in_alone : (a : Axis) (rows : Rows) (i : ℤ) → pos 1 ≤ℤ a.step → 1 ≤ a.band → AreSome rows (bands a) → IsIn (bands_alone a rows) i → IsAlone a rows i
in_alone a rows i step some are is =
    let low : band_first a rows.from ≤ℤ i = rw (first_alone a rows step) at is.low in
    let high : i <ℤ band_past a (rows.to - 1) = rw (past_alone a rows step some are) at is.high in
    record {
      there = record { low = above (first a) i (rows.from * a.band) low; high = under (band_first a (rows.to - 1) +ℤ pos a.band) (past a) i high };
      band = rw (first_alone a rows step) (moved_band (span_len (first a) i) (rows.from * a.band) rows.from a.band some refl (far (first a) i (rows.from * a.band) low) ∙ ap (λ n. rows.from + n / a.band) (sym (rest (first a) i (rows.from * a.band) low)));
      below = div_below (span_len (first a) i) a.band rows.to some (rw (last_row rows.to a.band are.some) at (before (first a) (past a) i ((rows.to - 1) * a.band) a.band (above (first a) i (rows.from * a.band) low) high));
    }
  where
    above : (f i : ℤ) (m : ℕ) → (f +ℤ pos m) ≤ℤ i → f ≤ℤ i
    above f i m h = omega (arith, ints, clamps)

    under : (z p i : ℤ) → i <ℤ int_min z p → i <ℤ p
    under z p i h = omega (arith, ints, clamps)

    far : (f i : ℤ) (m : ℕ) → (f +ℤ pos m) ≤ℤ i → m ≤ span_len f i
    far f i m h = omega (arith, ints, clamps)

    rest : (f i : ℤ) (m : ℕ) → (f +ℤ pos m) ≤ℤ i → span_len (f +ℤ pos m) i ≡ span_len f i - m
    rest f i m h = omega (arith, ints, clamps)

    before : (f p i : ℤ) (m b : ℕ) → f ≤ℤ i → i <ℤ int_min ((f +ℤ pos m) +ℤ pos b) p → span_len f i < m + b
    before f p i m b h k = omega (arith, ints, clamps)

    last_row : (t b : ℕ) → rows.from < t → (t - 1) * b + b ≡ t * b
    last_row zero b lt = absurd (omega (arith, lt))
    last_row (suc t) b lt = ap (λ n. n * b + b) (less t) ∙ next t b
      where
        less : (t : ℕ) → suc t - 1 ≡ t
        less t = omega arith

        next : (t b : ℕ) → t * b + b ≡ suc t * b
        next t b = omega arith

pub back_alone : (a : Axis) (rows : Rows) (i : ℤ) → pos 1 ≤ℤ a.step → 1 ≤ a.band → AreSome rows (bands a) → IsIn a i → rows.from ≤ band_of a i → band_of a i < rows.to → IsIn (bands_alone a rows) i
back_alone a rows i step some are is from to =
    let n = in_band_of (span_len (first a) i) a.band some in
    let low = mul-le-mul from (same a.band) in
    let high = mul-le-mul (last to) (same a.band) in
    record {
      low = rw (first_alone a rows step) (above (first a) i (rows.from * a.band) (band_of a i * a.band) is.low low n.0);
      high = rw (past_alone a rows step some are) (under (first a) (past a) i (band_of a i * a.band) ((rows.to - 1) * a.band) a.band is.low is.high high n.1);
    }
  where
    same : (n : ℕ) → n ≤ n
    same n = omega arith

    last : {g t : ℕ} → g < t → g ≤ t - 1
    last lt = omega (arith, lt)

    above : (f i : ℤ) (m k : ℕ) → f ≤ℤ i → m ≤ k → k ≤ span_len f i → (f +ℤ pos m) ≤ℤ i
    above f i m k h l e = omega (arith, ints, clamps)

    under : (f p i : ℤ) (k m b : ℕ) → f ≤ℤ i → i <ℤ p → k ≤ m → span_len f i < k + b → i <ℤ int_min ((f +ℤ pos m) +ℤ pos b) p
    under f p i k m b h l e g = omega (arith, ints, clamps)

-- ---- their frame

-- it lies within the whole one, and holds a box
pub record IsFramed (a : Axis) (rows : Rows) : Type 0 where
  pub low : a.low ≤ℤ (bands_alone a rows).low
  pub some : (bands_alone a rows).low <ℤ (bands_alone a rows).high
  pub high : (bands_alone a rows).high ≤ℤ a.high

pub framed_alone : (a : Axis) (rows : Rows) → IsAxis a → AreSome rows (bands a) → IsFramed a rows
framed_alone a rows is are = record {
  low = (low (rows.from == 0)).0;
  some = up (low (rows.from == 0)).1 wide (high (rows.to == bands a)).0;
  high = (high (rows.to == bands a)).1;
}
  where
    begun : IsIn a (band_first a rows.from)
    begun = first_in a rows.from is.band_is.least (let s = are.some in let w = are.within in omega (arith, s, w))

    ended : IsIn a (band_past a (rows.to - 1) -ℤ pos 1)
    ended = last_in a (rows.to - 1) is.band_is.least (let s = are.some in let w = are.within in omega (arith, s, w))

    same : (z : ℤ) → z ≤ℤ z
    same z = omega (arith, ints)

    low : (c : Bool) → (a.low ≤ℤ (if c then a.low else band_begin a rows.from)) × ((if c then a.low else band_begin a rows.from) ≤ℤ band_begin a rows.from)
    low true = (same a.low, (in_on a (band_first a rows.from) is.step_is.least begun).begins)
    low false = ((in_on a (band_first a rows.from) is.step_is.least begun).begins, same (band_begin a rows.from))

    high : (c : Bool) → (band_end a (rows.to - 1) ≤ℤ (if c then a.high else band_end a (rows.to - 1))) × ((if c then a.high else band_end a (rows.to - 1)) ≤ℤ a.high)
    high true = ((in_on a (band_past a (rows.to - 1) -ℤ pos 1) is.step_is.least ended).ends, same a.high)
    high false = (same (band_end a (rows.to - 1)), (in_on a (band_past a (rows.to - 1) -ℤ pos 1) is.step_is.least ended).ends)

    wide : band_begin a rows.from <ℤ band_end a (rows.to - 1)
    wide = longer a.origin (band_first a rows.from *ℤ a.step) ((band_past a (rows.to - 1) -ℤ pos 1) *ℤ a.step) a.length is.length_is.least
        (product_le (band_first a rows.from) (band_past a (rows.to - 1) -ℤ pos 1) a.step is.step_is.least (before (band_first a rows.from) (band_first a (rows.to - 1)) (band_past a (rows.to - 1))
        (bands_rise a rows.from (rows.to - 1) (let s = are.some in omega (arith, s))) (first_before_last a (rows.to - 1) is.band_is.least (let s = are.some in let w = are.within in omega (arith, s, w)))))
      where
        longer : (o m n l : ℤ) → pos 1 ≤ℤ l → m ≤ℤ n → (o +ℤ m) <ℤ ((o +ℤ n) +ℤ l)
        longer o m n l h k = omega (arith, ints)

        before : (f g p : ℤ) → f ≤ℤ g → g <ℤ p → f ≤ℤ (p -ℤ pos 1)
        before f g p h k = omega (arith, ints)

    up : {l b e h : ℤ} → l ≤ℤ b → b <ℤ e → e ≤ℤ h → l <ℤ h
    up x y z = omega (arith, ints, x, y, z)

-- none of no bands leave the axis as it is
pub none_alone : (a : Axis) (rows : Rows) → rows.from ≡ 0 → rows.to ≡ bands a → bands_alone a rows ≡ a
none_alone a rows from to = rw (from, eq-eqb rows.to (bands a) to) refl

pub framed_rows : (a : Axis) (rows : Rows) → IsAxis a → AreRowsOf rows (bands a) → IsFramed a rows
framed_rows a rows is are = elim are [
  | inl some ↦ framed_alone a rows is some
  | inr none ↦ (let e = none_alone a rows none.0 (none.1 ∙ sym none.2) in record {
    low = subst (λ (b : Axis). a.low ≤ℤ b.low) (sym e) (same a.low);
    some = subst (λ (b : Axis). b.low <ℤ b.high) (sym e) is.ordered;
    high = subst (λ (b : Axis). b.high ≤ℤ a.high) (sym e) (same a.high);
  })
]
  where
    same : (z : ℤ) → z ≤ℤ z
    same z = omega (arith, ints)
