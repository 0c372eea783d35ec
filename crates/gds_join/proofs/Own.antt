-- The fill of a part's own rows of tiles, on the raster of these rows and on that of the chip.
use Rattle.std.proofs.Common.{◌≡◌, refl, sym, ap, subst, ◌∙◌, ℕ, ◌+◌, ◌*◌, ◌≤◌, ◌<◌, arith, inl, inr, ℤ, pos, ◌+ℤ◌, ◌≤ℤ◌, ◌<ℤ◌, true, false, List}
use Rattle.std.specs.Prelude.{nat_lt}
use Rattle.std.specs.Int.{int_min}
use Rattle.std.proofs.lemmas.Bool.{and_from, and_parts, cases_Bool}
use Rattle.std.proofs.lemmas.Bool.Decides.{nat_tests}
use Rattle.std.proofs.lemmas.Int.{ints, clamps}
use Rattle.fill_raster.specs.Axes.{IsAxis, band_of, bands, first, is_on, past}
use Rattle.fill_raster.specs.Lattice.{in_raster}
use Rattle.fill_raster.specs.declared.axis.Axis.{Axis}
use Rattle.fill_raster.proofs.Ranges.{IsIn, in_on, on_in, on_within, within_on}
use Rattle.fill_text.specs.Rules.{Values, raster_of}
use Rattle.fill_text.specs.ValuesOfRules.{values_of}
use Rattle.fill_text.specs.declared.rules.Rules.{Rules}
use Rattle.fill_parts.specs.Cuts.{IsPart, Part, first_row, has_row, past_row}
use Rattle.fill_parts.specs.PartChip.{own_alone, own_tiles}
use Rattle.fill_parts.specs.Smaller.{AreRowsOf, AreSome, Rows, bands_alone}
use Rattle.fill_parts.specs.SmallerRules.{rows_alone}
use Rattle.fill_parts.proofs.BandsAlone.{back_alone, first_alone, in_alone, none_alone, past_alone}
use Rattle.fill_parts.proofs.Cutting.{cut_ends, cut_le, is_row_of, row_of_is}
use Rattle.fill_parts.proofs.Leveling.{place_row}
use Rattle.fill_parts.proofs.PartRules.{own_tiles_are}
use Rattle.gds_out.specs.FillText.{fill_text}
use Rattle.gds_out.specs.Places.{PlaceSet}
use Rattle.gds_out.proofs.SomeRows.{text_alone}
use Rattle.gds_join.specs.Joins.{IsPartText, is_of_part}
use Rattle.gds_join.specs.Reading.{IsFillOf}

-- a part's rows end within the chip's
pub within_chip : (k : Part) (n : ℕ) → IsPart k → past_row k n ≤ n
within_chip k n is =
    let below = is.below in
    let le = cut_le n k.count (k.number + 1) k.count (omega (arith, below)) (omega (arith, below)) in
    subst (λ (m : ℕ). past_row k n ≤ m) (cut_ends n k.count (omega (arith, below))) le

-- ---- rows of tiles alone

module _ (a : Axis) (rows : Rows) (is : IsAxis a) where
  pub begins_later : first a ≤ℤ first (bands_alone a rows)
  begins_later = rw (first_alone a rows is.step_is.least) (later (first a) (rows.from * a.band))
    where
      later : (f : ℤ) (m : ℕ) → f ≤ℤ (f +ℤ pos m)
      later f m = omega (arith, ints)

  pub ends_sooner : AreRowsOf rows (bands a) → past (bands_alone a rows) ≤ℤ past a
  ends_sooner (inl are) = rw (past_alone a rows is.step_is.least is.band_is.least are) (sooner _ (past a))
    where
      sooner : (z p : ℤ) → int_min z p ≤ℤ p
      sooner z p = omega (arith, ints, clamps)
  ends_sooner (inr none) = rw (none_alone a rows none.0 (none.1 ∙ sym none.2)) (same (past a))
    where
      same : (p : ℤ) → p ≤ℤ p
      same p = omega (arith, ints)

  -- their places are those of the axis in these bands
  pub on_alone : AreSome rows (bands a) → (j : ℤ) → is_on (bands_alone a rows) j ≡ true → (is_on a j ≡ true) × (rows.from ≤ band_of a j) × (band_of a j < rows.to)
  on_alone are j on =
      let in_there = in_alone a rows j is.step_is.least is.band_is.least are (on_in (bands_alone a rows) j is.step_is.least (on_within (bands_alone a rows) j on)) in
      let band = in_there.band in
      (within_on a j (in_on a j is.step_is.least in_there.there), omega (arith, band), in_there.below)

  pub alone_on : AreSome rows (bands a) → (j : ℤ) → is_on a j ≡ true → rows.from ≤ band_of a j → band_of a j < rows.to → is_on (bands_alone a rows) j ≡ true
  alone_on are j on from to = within_on (bands_alone a rows) j (in_on (bands_alone a rows) j is.step_is.least (back_alone a rows j is.step_is.least is.band_is.least are (on_in a j is.step_is.least (on_within a j on)) from to))

-- ---- a part's own

module _ (values : Values) (k : Part) (across : IsAxis (raster_of values.numbers).across) (up : IsAxis (raster_of values.numbers).up) (part : IsPart k) where
  abbrev n : ℕ
  n = bands (raster_of values.numbers).up

  are : AreRowsOf (own_tiles k n) n
  are = own_tiles_are k n (within_chip k n part)

  tiles_are : nat_lt (first_row k n) (past_row k n) ≡ true → own_tiles k n ≡ record { from = first_row k n; to = past_row k n }
  tiles_are some = rw some refl

  some_are : nat_lt (first_row k n) (past_row k n) ≡ true → AreSome (own_tiles k n) n
  some_are some = rw (tiles_are some) (record { some = grind (arith, nat_tests, some); within = within_chip k n part })

  -- of some rows: a place is of them where it is the part's
  pub own_row : nat_lt (first_row k n) (past_row k n) ≡ true → (j : ℤ) → is_on (raster_of (own_alone values k).numbers).up j ≡ true
      → (is_on (raster_of values.numbers).up j ≡ true) × (has_row k n (band_of (raster_of values.numbers).up j) ≡ true)
  own_row some j on =
      let o = on_alone (raster_of values.numbers).up (own_tiles k n) up (some_are some) j on in
      let from : first_row k n ≤ band_of (raster_of values.numbers).up j = rw (tiles_are some) at o.1 in
      let to : band_of (raster_of values.numbers).up j < past_row k n = rw (tiles_are some) at o.2 in
      (o.0, is_row_of k n (band_of (raster_of values.numbers).up j) (record { low = from; high = to }))

  pub own_on : nat_lt (first_row k n) (past_row k n) ≡ true → (i j : ℤ) → in_raster (raster_of (own_alone values k).numbers) i j ≡ true
      → (in_raster (raster_of values.numbers) i j ≡ true) × (is_of_part values k i j ≡ true)
  own_on some i j on =
      let r = raster_of values.numbers in
      let parts = and_parts (is_on r.across i) _ on in
      let row = own_row some j parts.1 in
      (and_from (is_on r.across i) (is_on r.up j) parts.0 row.0, ap (has_row k n) (place_row r i j across parts.0) ∙ row.1)

  pub on_own : (i j : ℤ) → in_raster (raster_of values.numbers) i j ≡ true → is_of_part values k i j ≡ true → (nat_lt (first_row k n) (past_row k n) ≡ true) × (in_raster (raster_of (own_alone values k).numbers) i j ≡ true)
  on_own i j on own =
      let r = raster_of values.numbers in
      let parts = and_parts (is_on r.across i) (is_on r.up j) on in
      let row = row_of_is k n (band_of r.up j) (ap (has_row k n) (sym (place_row r i j across parts.0)) ∙ own) in
      let from = row.low in let below = row.high in
      let some : nat_lt (first_row k n) (past_row k n) ≡ true = grind (arith, nat_tests, from, below) in
      (some, and_from (is_on r.across i) _ parts.0 (alone_on r.up (own_tiles k n) up (some_are some) j parts.1 (rw (tiles_are some) from) (rw (tiles_are some) below)))

  -- places of the own rows are written the same by the chip's rules
  pub own_text : (units dates : List ℕ) (filled : PlaceSet) → ((i j : ℤ) → filled i j ≡ true → in_raster (raster_of (own_alone values k).numbers) i j ≡ true)
      → fill_text units dates (own_alone values k) filled ≡ fill_text units dates values filled
  own_text units dates filled on = text_alone values (rows_alone values (own_tiles k n) (record { from = 0; to = 1 })) units dates filled (record {
    across = refl;
    from = begins_later (raster_of values.numbers).up (own_tiles k n) up;
    to = ends_sooner (raster_of values.numbers).up (own_tiles k n) up are;
    below = λ i j lt. out i j (λ h. under (first small) j lt (rows i j h).low);
    above = λ i j le. out i j (λ h. over (past small) j le (rows i j h).high);
  })
    where
      small : Axis
      small = (raster_of (own_alone values k).numbers).up

      rows : (i j : ℤ) → filled i j ≡ true → IsIn small j
      rows i j h = on_in small j up.step_is.least (on_within small j (and_parts (is_on (raster_of values.numbers).across i) (is_on small j) (on i j h)).1)

      out : (i j : ℤ) → (filled i j ≡ true → ⊥) → filled i j ≡ false
      out i j never = elim (cases_Bool (filled i j)) [
        | inl here ↦ absurd (never here)
        | inr none ↦ none
      ]

      under : (f j : ℤ) → j <ℤ f → f ≤ℤ j → ⊥
      under f j lt le = omega (arith, ints)

      over : (p j : ℤ) → p ≤ℤ j → j <ℤ p → ⊥
      over p j le lt = omega (arith, ints)

  -- a library of the own rows is the part's
  pub part_text : (rules : Rules) (bytes units dates : List ℕ) (filled : PlaceSet) → values_of rules ≡ own_alone values k → (nat_lt (first_row k n) (past_row k n) ≡ false → (i j : ℤ) → filled i j ≡ false)
      → IsFillOf (own_alone values k) bytes units dates filled → IsPartText values k units dates bytes filled
  part_text rules bytes units dates filled rules_are none is = record {
    rules = rules;
    rules_are = rules_are;
    is_fill = record { units_size = is.units_size; dates_size = is.dates_size; on_raster = λ i j h. (here i j h).0; text = is.text ∙ own_text units dates filled is.on_raster };
    own = λ i j h. (here i j h).1;
  }
    where
      here : (i j : ℤ) → filled i j ≡ true → (in_raster (raster_of values.numbers) i j ≡ true) × (is_of_part values k i j ≡ true)
      here i j h = elim (cases_Bool (nat_lt (first_row k n) (past_row k n))) [
        | inl some ↦ own_on some i j (is.on_raster i j h)
        | inr empty ↦ absurd (let f : true ≡ false = sym h ∙ none empty i j in cc f)
      ]

  -- and the part's library is one of the own rows, without a place where there is none
  pub text_of_part : (bytes units dates : List ℕ) (filled : PlaceSet) → IsPartText values k units dates bytes filled
      → IsFillOf (own_alone values k) bytes units dates filled × (nat_lt (first_row k n) (past_row k n) ≡ false → (i j : ℤ) → filled i j ≡ false)
  text_of_part bytes units dates filled is = (
    record { units_size = is.is_fill.units_size; dates_size = is.is_fill.dates_size; on_raster = λ i j h. (there i j h).1; text = is.is_fill.text ∙ sym (own_text units dates filled (λ i j h. (there i j h).1)) },
    λ empty i j. elim (cases_Bool (filled i j)) [
      | inl here ↦ absurd (let f : true ≡ false = sym (there i j here).0 ∙ empty in cc f)
      | inr none ↦ none
    ],
  )
    where
      there : (i j : ℤ) → filled i j ≡ true → (nat_lt (first_row k n) (past_row k n) ≡ true) × (in_raster (raster_of (own_alone values k).numbers) i j ≡ true)
      there i j h = on_own i j (is.is_fill.on_raster i j h) (is.own i j h)
