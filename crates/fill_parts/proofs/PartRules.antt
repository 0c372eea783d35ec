-- The rules of a part's chip.
use Rattle.std.proofs.Common.{◌≡◌, ◌↔◌, refl, ap, sym, subst, ◌∙◌, ℕ, zero, suc, min, ◌-◌, ◌*◌, ◌≤◌, ◌<◌, ◌==◌, inl, inr, ◌⊎◌, ℤ, ◌<ℤ◌, arith, Bool, true, false, ◌&&◌, [], ◌∷◌}
use Rattle.std.specs.Prelude.{Option, Some, None, IsSome, Result, Ok, Err, bytes_eq, int_lt, nat_le, nat_lt, if◌then◌else◌}
use Rattle.std.proofs.lemmas.Bool.{cases_Bool, eq-eqb, false_from_ne_true}
use Rattle.std.proofs.lemmas.Bool.Decides.{nat_tests}
use Rattle.fill_base.specs.Coordinates.{AreCoordinates, IsCoordinate}
use Rattle.fill_base.specs.Sides.{sides}
use Rattle.fill_base.proofs.Signed.{read}
use Rattle.fill_area.specs.Axes as areas
use Rattle.fill_area.specs.Axes.{IsCount, IsExtent, axis_begin}
use Rattle.fill_area.specs.declared.axis.Axis as spans
use Rattle.fill_raster.specs.Axes.{IsAxis, band_end, bands}
use Rattle.fill_raster.specs.declared.axis.Axis.{Axis}
use Rattle.fill_text.specs.Chips.{AreChipNumbers, chip_faults, judged, with_rows}
use Rattle.fill_text.specs.Grids.{is_axis}
use Rattle.fill_text.specs.Rasters.{has_few_places, keeps_pitch}
use Rattle.fill_text.specs.RectTests.{is_rect}
use Rattle.fill_text.specs.Refusals.{Gives, fault_if, fault_unless, first_some, refused_or}
use Rattle.fill_text.specs.Rules.{Values, frame_of, raster_of, value_of, whole_windows, windows_with}
use Rattle.fill_text.specs.declared.chip.ChipRows.{ChipRows}
use Rattle.fill_text.specs.declared.keys.NumberKey.TheVariants as number
use Rattle.fill_text.specs.declared.rule_error.RuleError.{RuleError}
use Rattle.fill_text.specs.declared.rule_error.RuleError.TheVariants.{BadPitch, BadRect, BadWindows, Memory, TooManyPlaces}
use Rattle.fill_text.specs.ValuesOfRules.{values_of}
use Rattle.fill_text.proofs.FirstFaults.{none_at, unless_holds}
use Rattle.fill_text.proofs.GridTests.{axis_decided}
use Rattle.fill_text.proofs.Rectangles.{both, is_rect_facts, is_rect_true}
use Rattle.fill_job.specs.Plans.{plan_of}
use Rattle.fill_job.specs.Searches.{some_below}
use Rattle.fill_job.proofs.Searching.{some_below_finds}
use Rattle.fill_parts.specs.Cuts.{Part, first_row, past_row}
use Rattle.fill_parts.specs.PartChip.{by_size, looks_at, own_tiles, part_alone, part_rules}
use Rattle.fill_parts.specs.PartRows.{chip_tiles, looked_at_windows, looks_at_row}
use Rattle.fill_parts.specs.Smaller.{AreRowsOf, AreSome, Rows, bands_alone, spans_alone}
use Rattle.fill_parts.specs.SmallerRules.{rows_alone, rules_alone}
use Rattle.fill_parts.specs.declared.part_rules.PartRulesError.{PartRulesError}
use Rattle.fill_parts.specs.declared.part_rules.PartRulesError.TheVariants.{Windows, Places, Memory as NoMemory}
use Rattle.fill_parts.proofs.BandsAlone.{framed_rows}
use Rattle.fill_parts.proofs.SpansAlone.{spans_are}
use Rattle.fill_parts.proofs.Chipping.{begin_coordinate, coordinate_read, end_coordinate, high_edge, low_edge, span_begin}
use Rattle.fill_parts.proofs.Looking.{chip_rows_are, first_before, past_behind, past_within}

-- ---- the frame of a part's rows of tiles

-- where the test for the first row fails, that row begins a band; and where the test for the last fails, one ends it
pub first_is_some : (rows : Rows) (n : ℕ) → AreRowsOf rows n → (rows.from ≡ 0 → ⊥) → rows.from < n
first_is_some rows n are not_first = elim are [
  | inl is ↦ (let some = is.some in let within = is.within in omega (arith, some, within))
  | inr none ↦ absurd (not_first none.0)
]

pub last_is_some : (rows : Rows) (n : ℕ) → AreRowsOf rows n → (rows.to ≡ n → ⊥) → rows.to - 1 < n
last_is_some rows n are not_last = elim are [
  | inl is ↦ (let some = is.some in let within = is.within in omega (arith, some, within))
  | inr none ↦ absurd (not_last (none.1 ∙ sym none.2))
]

pub last_row_fits : (rows : Rows) (n : ℕ) → AreRowsOf rows n → (rows.to ≡ n → ⊥) → 1 ≤ rows.to
last_row_fits rows n are not_last = elim are [
  | inl is ↦ (let some = is.some in omega (arith, some))
  | inr none ↦ absurd (not_last (none.1 ∙ sym none.2))
]

not_equal : (a b : ℕ) → (a == b) ≡ false → a ≡ b → ⊥
not_equal a b h e = let f : false ≡ true = sym h ∙ eq-eqb a b e in cc

pub bottom_coordinate : (a : Axis) (rows : Rows) → IsAxis a → AreRowsOf rows (bands a) → IsCoordinate (bands_alone a rows).low
bottom_coordinate a rows is are = elim (cases_Bool (rows.from == 0)) [
  | inl all ↦ rw all (low_edge a is)
  | inr some ↦ rw some (begin_coordinate a rows.from is (first_is_some rows (bands a) are (not_equal rows.from 0 some)))
]

pub top_coordinate : (a : Axis) (rows : Rows) → IsAxis a → AreRowsOf rows (bands a) → IsCoordinate (bands_alone a rows).high
top_coordinate a rows is are = elim (cases_Bool (rows.to == bands a)) [
  | inl all ↦ rw all (high_edge a is)
  | inr some ↦ rw some (end_coordinate a (rows.to - 1) is (last_is_some rows (bands a) are (not_equal rows.to (bands a) some)))
]

-- ---- the rules

-- what counts of windows doesn't change their rows
pub windows_up : (values : Values) → (plan_of values).windows.up ≡ (whole_windows values.numbers).up
windows_up values = either values.ignores
  where
    either : (i : Bool) → (windows_with values.numbers i).up ≡ (whole_windows values.numbers).up
    either true = refl
    either false = refl

-- what holds of two axes holds of equal ones
moved : (P : Axis → spans.Axis → Type 0) (a b : Axis) (s r : spans.Axis) → a ≡ b → s ≡ r → P a s → P b r
moved P a b s r a_is s_is h = subst (λ x. P x r) a_is (subst (λ y. P a y) s_is h)

-- ---- why they are refused

if_fails : (b : Bool) (e : RuleError) → fault_if b e ≡ None → b ≡ false
if_fails true e none = cc none
if_fails false e none = refl

-- as the reader of a rule file tells it
abbrev as_read : Result Values PartRulesError → Result Values RuleError
as_read (Ok v) = Ok v
as_read (Err Windows) = Err BadWindows
as_read (Err Places) = Err TooManyPlaces
as_read (Err NoMemory) = Err Memory

-- values that only their numbers of windows and of places can make wrong
pub judged_by_size : (v : Values) → int_lt (value_of v number.Max) (value_of v number.Min) ≡ false → bytes_eq v.fill_top v.fill_cell ≡ false → is_rect (frame_of v.numbers) ≡ true
    → is_axis (whole_windows v.numbers).across ≡ true → is_axis (whole_windows v.numbers).up ≡ true → keeps_pitch (raster_of v.numbers) (value_of v number.FillSpacing) ≡ true → judged v ≡ as_read (by_size v)
judged_by_size v m c r x y p = rw (m, c, r, x, y, p) (sizes (nat_le ((whole_windows v.numbers).across.count * (whole_windows v.numbers).up.count) 1048576) (has_few_places (raster_of v.numbers)))
  where
    sizes : (w n : Bool) → refused_or (first_some (fault_unless w BadWindows ∷ None ∷ fault_unless n TooManyPlaces ∷ [])) v ≡ as_read (if w then (if n then Ok v else Err Places) else Err Windows)
    sizes true true = refl
    sizes true false = refl
    sizes false n = refl

-- rules of some rows are refused for how many windows or places they have, and for nothing else
refused_by_size : (values : Values) (tiles windows : Rows) → first_some (chip_faults values) ≡ None → AreChipNumbers values → AreRowsOf tiles (bands (raster_of values.numbers).up) → AreSome windows (whole_windows values.numbers).up.count
    → judged (rules_alone values tiles windows) ≡ as_read (by_size (rules_alone values tiles windows))
refused_by_size values tiles windows none is rows some = judged_by_size (rules_alone values tiles windows)
    (if_fails _ _ (none_at (chip_faults values) 0 none)) (if_fails _ _ (none_at (chip_faults values) 1 none)) rect (both _ _ axes).0 up
    (unless_holds _ BadPitch (none_at (chip_faults values) 4 none))
  where
    a : Axis
    a = (raster_of values.numbers).up

    corners : AreCoordinates (frame_of values.numbers).left (frame_of values.numbers).bottom (frame_of values.numbers).right (frame_of values.numbers).top × ((frame_of values.numbers).left <ℤ (frame_of values.numbers).right) × ((frame_of values.numbers).bottom <ℤ (frame_of values.numbers).top)
    corners = is_rect_facts (frame_of values.numbers) (unless_holds (is_rect (frame_of values.numbers)) BadRect (none_at (chip_faults values) 2 none))

    axes : (is_axis (whole_windows values.numbers).across && is_axis (whole_windows values.numbers).up) ≡ true
    axes = unless_holds (is_axis (whole_windows values.numbers).across && is_axis (whole_windows values.numbers).up) BadWindows (none_at (chip_faults values) 3 none)

    rect : is_rect (sides (frame_of values.numbers).left (bands_alone a tiles).low (frame_of values.numbers).right (bands_alone a tiles).high) ≡ true
    rect = is_rect_true (sides (frame_of values.numbers).left (bands_alone a tiles).low (frame_of values.numbers).right (bands_alone a tiles).high)
        (record { left_is = corners.0.left_is; bottom_is = bottom_coordinate a tiles is.places_up rows; right_is = corners.0.right_is; top_is = top_coordinate a tiles is.places_up rows }) corners.1 (framed_rows a tiles is.places_up rows).some

    up : is_axis (spans_alone (whole_windows values.numbers).up windows) ≡ true
    up = sym (axis_decided (spans_alone (whole_windows values.numbers).up windows) true ((λ _. spans_are (whole_windows values.numbers).up windows is.windows_up some), (λ _. refl)))

-- ---- as the code finds them

pub top_all : (a : Axis) (rows : Rows) (n : ℕ) → IsAxis a → rows.to ≡ n → n ≡ bands a → read a.high ≡ (bands_alone a rows).high
top_all a rows n is all n_is = let e : rows.to ≡ bands a = all ∙ n_is in rw (eq-eqb rows.to (bands a) e) (coordinate_read a.high (high_edge a is))

pub top_some : (a : Axis) (rows : Rows) (n : ℕ) (y : ℤ) → IsAxis a → AreRowsOf rows (bands a) → (rows.to ≡ n → ⊥) → n ≡ bands a → y ≡ band_end a (rows.to - 1) → read y ≡ (bands_alone a rows).high
top_some a rows n y is are other n_is y_is =
    let not_all : rows.to ≡ bands a → ⊥ = λ all. other (all ∙ sym n_is) in
    rw (eqb_false rows.to (bands a) not_all, y_is) (coordinate_read (band_end a (rows.to - 1)) (end_coordinate a (rows.to - 1) is (last_is_some rows (bands a) are not_all)))
  where
    eqb_is : (m n : ℕ) → (m == n) ≡ true → m ≡ n
    eqb_is m n e = grind (arith, nat_tests)

    eqb_false : (m n : ℕ) → (m ≡ n → ⊥) → (m == n) ≡ false
    eqb_false m n h = false_from_ne_true (m == n) (λ e. h (eqb_is m n e))

-- a part looks at a window by either axis of windows
pub looks_by_plan : (values : Values) (k : Part) → some_below (looks_at_row k (raster_of values.numbers).up (whole_windows values.numbers).up) (whole_windows values.numbers).up.count ≡ some_below (looks_at (plan_of values) k) (plan_of values).windows.up.count
looks_by_plan values k = sym (ap (λ (s : spans.Axis). some_below (looks_at_row k (raster_of values.numbers).up s) s.count) (windows_up values))

-- what the rules of these rows are judged to be
module _ (values : Values) (tiles windows : Rows) (alone : ChipRows) (none : first_some (chip_faults values) ≡ None) (is : AreChipNumbers values)
    (t_are : AreRowsOf tiles (bands (raster_of values.numbers).up)) (w_are : AreSome windows (whole_windows values.numbers).up.count) (rows : alone ≡ rows_alone values tiles windows) where
  as_sized : judged (with_rows values alone) ≡ as_read (by_size (rules_alone values tiles windows))
  as_sized = ap (λ (r : ChipRows). judged (with_rows values r)) rows ∙ refused_by_size values tiles windows none is t_are w_are

  pub rules_given : (v : Values) → judged (with_rows values alone) ≡ Ok v → by_size (rules_alone values tiles windows) ≡ Ok v
  rules_given v given = back (by_size (rules_alone values tiles windows)) (sym as_sized ∙ given)
    where
      read_value : Result Values RuleError → Values
      read_value (Ok w) = w
      read_value (Err e) = v

      back : (r : Result Values PartRulesError) → as_read r ≡ Ok v → r ≡ Ok v
      back (Ok w) e = ap Ok (ap read_value e)
      back (Err Windows) e = cc e
      back (Err Places) e = cc e
      back (Err NoMemory) e = cc e

  pub windows_refused : (BadWindows ≡ Memory) ⊎ (judged (with_rows values alone) ≡ Err BadWindows) → Gives NoMemory values_of (Err Windows) (by_size (rules_alone values tiles windows))
  windows_refused (inl e) = cc e
  windows_refused (inr given) = inr (back (by_size (rules_alone values tiles windows)) (sym as_sized ∙ given))
    where
      back : (r : Result Values PartRulesError) → as_read r ≡ Err BadWindows → r ≡ Err Windows
      back (Ok w) e = cc e
      back (Err Windows) e = refl
      back (Err Places) e = cc e
      back (Err NoMemory) e = cc e

  pub places_refused : (TooManyPlaces ≡ Memory) ⊎ (judged (with_rows values alone) ≡ Err TooManyPlaces) → Gives NoMemory values_of (Err Places) (by_size (rules_alone values tiles windows))
  places_refused (inl e) = cc e
  places_refused (inr given) = inr (back (by_size (rules_alone values tiles windows)) (sym as_sized ∙ given))
    where
      back : (r : Result Values PartRulesError) → as_read r ≡ Err TooManyPlaces → r ≡ Err Places
      back (Ok w) e = cc e
      back (Err Windows) e = cc e
      back (Err Places) e = refl
      back (Err NoMemory) e = cc e

-- values of few enough windows and places are these values
pub sized_is : (v w : Values) → by_size v ≡ Ok w → v ≡ w
sized_is v w given = back (nat_le ((whole_windows v.numbers).across.count * (whole_windows v.numbers).up.count) 1048576) (has_few_places (raster_of v.numbers)) given
  where
    ok_of : Result Values PartRulesError → Values
    ok_of (Ok x) = x
    ok_of (Err e) = v

    back : (x y : Bool) → (if x then (if y then Ok v else Err Places) else Err Windows) ≡ Ok w → v ≡ w
    back true true e = ap ok_of e
    back true false e = cc e
    back false y e = cc e

pub rows_are : (i : Bool) (k : Part) (a : Axis) (s : spans.Axis) (t u : ℕ) → t ≡ (chip_tiles i k a s).from → u ≡ (chip_tiles i k a s).to → AreRowsOf (record { from = t; to = u }) (bands a)
rows_are i k a s t u t_is u_is = rw (t_is, u_is) (chip_rows_are i k a s)

pub read_as : (y z : ℤ) → y ≡ z → IsCoordinate z → read y ≡ z
read_as y z e is = rw e (coordinate_read z is)

-- ---- the rows that rules are made of, found on axes that are those of the chip

abbrev pub chip_rows : ℤ → ℤ → ℤ → ℕ → ChipRows
chip_rows bottom top first windows = record { bottom = bottom; top = top; first_window = first; windows = windows }

module _ (values : Values) (tiles windows : Rows) (a : Axis) (s : spans.Axis) (is_a : IsAxis a) (is_s : areas.IsAxis s) (a_is : a ≡ (raster_of values.numbers).up) (s_is : s ≡ (whole_windows values.numbers).up)
    (t_are : AreRowsOf tiles (bands (raster_of values.numbers).up)) (w_are : AreSome windows (whole_windows values.numbers).up.count) where
  pub rows_here : AreRowsOf tiles (bands a)
  rows_here = subst (λ (b : Axis). AreRowsOf tiles (bands b)) (sym a_is) t_are

  pub below_here : windows.from < s.count
  below_here = subst (λ (r : spans.Axis). windows.from < r.count) (sym s_is) (let some = w_are.some in let within = w_are.within in omega (arith, some, within))

  pub count_here : IsCount (windows.to - windows.from)
  count_here = let some = w_are.some in let within = subst (λ (r : spans.Axis). windows.to ≤ r.count) (sym s_is) w_are.within in let most = is_s.count_is.most in record { least = omega (arith, some); most = omega (arith, within, most) }

  pub alone_here : (bottom top first end : ℤ) → bottom ≡ (bands_alone a tiles).low → top ≡ (bands_alone a tiles).high → IsExtent s windows.from first end
      → chip_rows (read bottom) (read top) (read first) (windows.to - windows.from) ≡ rows_alone values tiles windows
  alone_here bottom top first end bottom_is top_is extent =
      let b : read bottom ≡ (bands_alone (raster_of values.numbers).up tiles).low = read_as bottom _ bottom_is (bottom_coordinate a tiles is_a rows_here) ∙ ap (λ (b : Axis). (bands_alone b tiles).low) a_is in
      let t : read top ≡ (bands_alone (raster_of values.numbers).up tiles).high = read_as top _ top_is (top_coordinate a tiles is_a rows_here) ∙ ap (λ (b : Axis). (bands_alone b tiles).high) a_is in
      let f : read first ≡ axis_begin (whole_windows values.numbers).up windows.from = coordinate_read first (span_begin s windows.from first end extent) ∙ (extent.begins ∙ ap (λ (r : spans.Axis). axis_begin r windows.from) s_is) in
      rw (b, t, f) refl

-- ---- the rows of a part, and its own

module _ (values : Values) (k : Part) (t u w x : ℕ)
    (tiles : (t ≡ (chip_tiles values.ignores k (raster_of values.numbers).up (whole_windows values.numbers).up).from) × (u ≡ (chip_tiles values.ignores k (raster_of values.numbers).up (whole_windows values.numbers).up).to))
    (windows : (w ≡ (looked_at_windows k (raster_of values.numbers).up (whole_windows values.numbers).up).from) × (x ≡ (looked_at_windows k (raster_of values.numbers).up (whole_windows values.numbers).up).to)) where
  pub tiles_here : AreRowsOf (record { from = t; to = u }) (bands (raster_of values.numbers).up)
  tiles_here = rows_are values.ignores k (raster_of values.numbers).up (whole_windows values.numbers).up t u tiles.0 tiles.1

  pub windows_here : some_below (looks_at_row k (raster_of values.numbers).up (whole_windows values.numbers).up) (whole_windows values.numbers).up.count ≡ true → AreSome (record { from = w; to = x }) (whole_windows values.numbers).up.count
  windows_here looks =
      let s = (whole_windows values.numbers).up in let a = (raster_of values.numbers).up in
      let found = some_below_finds (looks_at_row k a s) s.count looks in
      let low = first_before (looks_at_row k a s) s.count found.0 found.1 found.2 in
      let high = past_behind (looks_at_row k a s) s.count found.0 found.1 found.2 in
      let within = past_within (looks_at_row k a s) s.count in
      let w_is = windows.0 in let x_is = windows.1 in
      record { some = omega (arith, w_is, x_is, low, high); within = omega (arith, x_is, within) }

  pub part_alone_here : rules_alone values (record { from = t; to = u }) (record { from = w; to = x }) ≡ part_alone values k
  part_alone_here = rw (tiles.0, tiles.1, windows.0, windows.1) (ap (λ (s : spans.Axis). with_rows values (rows s)) (sym (windows_up values)))
    where
      rows : spans.Axis → ChipRows
      rows s = record { bottom = (bands_alone (raster_of values.numbers).up (chip_tiles values.ignores k (raster_of values.numbers).up s)).low; top = (bands_alone (raster_of values.numbers).up (chip_tiles values.ignores k (raster_of values.numbers).up s)).high; first_window = axis_begin (whole_windows values.numbers).up (looked_at_windows k (raster_of values.numbers).up s).from; windows = (looked_at_windows k (raster_of values.numbers).up s).to - (looked_at_windows k (raster_of values.numbers).up s).from }

-- a part's own rows of tiles are some, or the lowest
pub own_tiles_are : (k : Part) (n : ℕ) → past_row k n ≤ n → AreRowsOf (own_tiles k n) n
own_tiles_are k n within = by (nat_lt (first_row k n) (past_row k n)) (λ h. lt h)
  where
    lt : nat_lt (first_row k n) (past_row k n) ≡ true → first_row k n < past_row k n
    lt h = grind (arith, nat_tests)

    lowest : (m : ℕ) → AreRowsOf (record { from = 0; to = min 1 m }) m
    lowest zero = inr (refl, refl, refl)
    lowest (suc m) = inl (record { some = omega arith; within = omega arith })

    by : (b : Bool) → (b ≡ true → first_row k n < past_row k n) → AreRowsOf (if b then record { from = first_row k n; to = past_row k n } else record { from = 0; to = min 1 n }) n
    by true some = inl (record { some = some refl; within = within })
    by false some = lowest n

-- a part whose rows are some looks at a window
pub looks_here : {A : Type 0} (values : Values) (k : Part) (a : Axis) (s : spans.Axis) (x : A) → a ≡ (raster_of values.numbers).up → s ≡ (whole_windows values.numbers).up → (Some x ≡ None) ↔ (some_below (looks_at_row k a s) s.count ≡ false)
    → some_below (looks_at_row k (raster_of values.numbers).up (whole_windows values.numbers).up) (whole_windows values.numbers).up.count ≡ true
looks_here values k a s x a_is s_is none = moved (λ b r. some_below (looks_at_row k b r) r.count ≡ true) a (raster_of values.numbers).up s (whole_windows values.numbers).up a_is s_is (elim (cases_Bool (some_below (looks_at_row k a s) s.count)) [
  | inl some ↦ some
  | inr fails ↦ (let never = none.1 fails in cc never)
])

-- and then its rules are those of its own rows
pub rules_of_own : (values : Values) (k : Part) → some_below (looks_at_row k (raster_of values.numbers).up (whole_windows values.numbers).up) (whole_windows values.numbers).up.count ≡ true → part_rules values k ≡ by_size (part_alone values k)
rules_of_own values k looks = let here = sym (looks_by_plan values k) ∙ looks in rw here refl

pub option_some : {A : Type 0} (o : Option A) → (o ≡ None → ⊥) → IsSome o
option_some None none = absurd (none refl)
option_some (Some x) none = refl
