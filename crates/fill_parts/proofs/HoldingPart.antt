-- What the rules of a part's rows hold of the part.
use Rattle.std.proofs.Common.{◌≡◌, refl, sym, ap, subst, ◌∙◌, ℕ, ◌+◌, ◌-◌, ◌*◌, ◌/◌, ◌≤◌, ◌<◌, inl, inr, ℤ, pos, ◌≤ℤ◌, arith, Bool, true, false, ◌&&◌, ◌||◌, not, []}
use Rattle.std.specs.Prelude.{Ok, nat_lt}
use Rattle.std.proofs.Math.Path.{fun_ext}
use Rattle.std.proofs.lemmas.Bool.{and_parts, cases_lt, false_from_ne_true}
use Rattle.std.proofs.lemmas.Bool.Decides.{nat_tests}
use Rattle.std.proofs.lemmas.Int.{ints}
use Rattle.std.proofs.lemmas.Nat.{div_below}
use Rattle.fill_area.specs.Density.{window_area}
use Rattle.fill_area.specs.declared.axis.Axis as spans
use Rattle.fill_raster.specs.Axes.{band_of, bands, first, is_on, past}
use Rattle.fill_raster.specs.Lattice.{Lattice, box_squares, in_raster}
use Rattle.fill_raster.specs.declared.axis.Axis.{Axis}
use Rattle.fill_raster.proofs.Bands.{band_below}
use Rattle.fill_raster.proofs.Ranges.{on_in, on_within}
use Rattle.fill_text.specs.Chips.{AreChipNumbers, with_rows}
use Rattle.fill_text.specs.Rules.{Values, limits_of, raster_of, whole_windows, windows_of}
use Rattle.fill_text.specs.declared.chip.ChipRows.{ChipRows}
use Rattle.fill_job.specs.Plans.{IsPlan, Layers, Plan, PointSet, allowed, blocked, conflicts, crowded, drawn_squares, in_window_of, is_taken, low_windows, plan_of}
use Rattle.fill_job.specs.Plans as plans
use Rattle.fill_job.specs.Searches.{some_below, some_within}
use Rattle.fill_job.proofs.Conflicts.{blocked_sharing, conflict_of_squares, crowding_of_squares}
use Rattle.fill_job.proofs.Searching.{some_below_has}
use Rattle.fill_core.specs.Boxes.{low_fill}
use Rattle.fill_core.specs.Soundness.{IsSound}
use Rattle.fill_core.proofs.Sound.{boxes_apart}
use Rattle.fill_report.specs.BookReport.{boxes_of}
use Rattle.fill_report.specs.Report.{line_above, line_at, lines_above, measures_of, nothing}
use Rattle.fill_report.specs.declared.line.Measures.{Measures}
use Rattle.fill_parts.specs.Cuts.{IsPart, Part, first_row, has_row, past_row}
use Rattle.fill_parts.specs.Laws.{HasNothing}
use Rattle.fill_parts.specs.Needs.{has_windows}
use Rattle.fill_parts.specs.PartChip.{HoldsPart, IsChipOf, StandsIn, by_size, chip_plan, counted_from, is_row_in, looks_at, part_alone, part_tiles, part_windows, rows_fill, rows_told}
use Rattle.fill_parts.specs.PartFill.{part_fill}
use Rattle.fill_parts.specs.PartReport.{part_check, part_lines, part_report}
use Rattle.fill_parts.specs.PartRows.{chip_tiles, looked_at_windows, looks_at_row, own_rows}
use Rattle.fill_parts.specs.Smaller.{AreAxes, AreRowsOf, IsSmaller, Rows}
use Rattle.fill_parts.specs.SmallerRules.{rows_alone}
use Rattle.fill_parts.proofs.BandsAlone.{none_alone}
use Rattle.fill_parts.proofs.ChipStanding.{any_size, stands}
use Rattle.fill_parts.proofs.Cutting.{cut_ends, is_row_of, row_of_is}
use Rattle.fill_parts.proofs.Lines.{lines_by, same_measures}
use Rattle.fill_parts.proofs.Looking.{chip_windows, nothing as has_nothing, part_chip, some_rows, true_or}
use Rattle.fill_parts.proofs.PartOfChip.{chip_smaller, fill_of_chip, lines_of_chip}
use Rattle.fill_parts.proofs.PartRules.{sized_is, windows_up}
use Rattle.fill_parts.proofs.RowsAlone.{IsBanded, area_alone, band_alone, banded}
use Rattle.fill_parts.proofs.ToldLines.{no_line, no_row, own_within, past_few, told_by}
use Rattle.fill_parts.proofs.WindowsAlone.{filled_on}

-- ---- rows, counted from another one on

less_moved : (b f t : ℕ) → nat_lt b (f - t) ≡ nat_lt (t + b) f
less_moved b f t = elim (cases_lt b (f - t)) [
  | inl lt ↦ (let there : t + b < f = omega (arith, lt) in holds b (f - t) lt ∙ sym (holds (t + b) f there))
  | inr le ↦ (let there : f ≤ t + b = omega (arith, le) in fails b (f - t) le ∙ sym (fails (t + b) f there))
]
  where
    holds : (m n : ℕ) → m < n → nat_lt m n ≡ true
    holds m n lt = grind (arith, nat_tests)

    fails : (m n : ℕ) → n ≤ m → nat_lt m n ≡ false
    fails m n le = grind (arith, nat_tests)

-- some rows that there are, and none
counted_some : (low f t : ℕ) → f < t → counted_from low (record { from = f; to = t }) ≡ record { from = f - low; to = t - low }
counted_some low f t lt = rw (holds f t lt) refl
  where
    holds : (m n : ℕ) → m < n → nat_lt m n ≡ true
    holds m n lt = grind (arith, nat_tests)

counted_none : (low f t : ℕ) → t ≤ f → counted_from low (record { from = f; to = t }) ≡ record { from = 0; to = 0 }
counted_none low f t le = rw (fails f t le) refl
  where
    fails : (m n : ℕ) → n ≤ m → nat_lt m n ≡ false
    fails m n le = grind (arith, nat_tests)

and_none : (a b : Bool) → b ≡ false → a && b ≡ false
and_none true b h = h
and_none false b h = refl

-- no row is among none
none_in : (b : ℕ) → is_row_in (record { from = 0; to = 0 }) b ≡ false
none_in b = and_none (not (nat_lt b 0)) (nat_lt b 0) (zero b)
  where
    zero : (b : ℕ) → nat_lt b 0 ≡ false
    zero b = grind (arith, nat_tests)

row_moved : (k : Part) (n t b : ℕ) → is_row_in (counted_from t (own_rows k n)) b ≡ has_row k n (t + b)
row_moved k n t b = elim (cases_lt (first_row k n) (past_row k n)) [
  | inl lt ↦ ap (λ (r : Rows). is_row_in r b) (counted_some t (first_row k n) (past_row k n) lt) ∙ rw (less_moved b (first_row k n) t, less_moved b (past_row k n) t) refl
  | inr le ↦ ap (λ (r : Rows). is_row_in r b) (counted_none t (first_row k n) (past_row k n) le) ∙ (none_in b ∙ sym (false_from_ne_true (has_row k n (t + b)) (λ has.
      let row = row_of_is k n (t + b) has in let low = row.low in let high = row.high in omega (arith, low, high, le))))
]

same_and : (f a b : Bool) → (f ≡ true → a ≡ b) → f && a ≡ f && b
same_and true a b h = h refl
same_and false a b h = refl

none_and : (f a : Bool) → f ≡ false → f && a ≡ false
none_and f a none = rw none refl

-- ---- a raster without a place

no_place : (r : Lattice) (i j : ℤ) → IsBanded r.up → bands r.up ≡ 0 → in_raster r i j ≡ true → ⊥
no_place r i j up none on =
    let row = (and_parts (is_on r.across i) (is_on r.up j) on).1 in
    let lt = band_below r.up j up.band (on_in r.up j up.step (on_within r.up j row)) in
    omega (arith, lt, none)

-- ---- what windows measure

-- a window measures the same in the smaller chip, of the same metal and the same boxes
measures_alone : (whole small : Plan) (tiles windows : Rows) (metal u v : PointSet) → IsSmaller whole small tiles windows → u ≡ v → (a b : ℕ) → b < small.windows.up.count
    → measures_of metal u small.windows a b ≡ measures_of metal v whole.windows a (windows.from + b)
measures_alone whole small tiles windows metal u v is same a b lt =
    same_measures _ _
    (ap pos (area_alone whole small tiles windows metal is a b lt))
    (ap pos (ap (λ (p : PointSet). window_area p small.windows a b) same ∙ area_alone whole small tiles windows v is a b lt))
    (ap pos (ap (λ (p : PointSet). window_area (λ x y. metal x y || p x y) small.windows a b) same ∙ area_alone whole small tiles windows (λ x y. metal x y || v x y) is a b lt))

-- ---- boxes that keep their distances

not_yes : (b : Bool) → not b ≡ true → b ≡ true → ⊥
not_yes true h yes_b = let e : false ≡ true = h in cc
not_yes false h yes_b = let e : false ≡ true = yes_b in cc

neither : (a b : Bool) → not (a || b) ≡ true → (not a ≡ true) × (not b ≡ true)
neither true b h = absurd (let e : false ≡ true = h in cc)
neither false b h = (refl, h)

-- the fill of a chip of any size is sound if some rows of it alone make a plan
chip_sound : (values : Values) (rows : ChipRows) (layers : Layers) → IsPlan (plan_of (with_rows values rows)) → IsSound (plan_of values) layers (low_fill (plan_of values) layers)
unfolding plans.meets_box
chip_sound values rows layers is =
    let plan = plan_of values in let small = plan_of (with_rows values rows) in
    let may : (i j : ℤ) → low_fill plan layers i j ≡ true → (in_raster plan.raster i j && not (is_taken plan layers i j)) ≡ true
    = λ i j h. (and_parts (allowed plan layers i j) (in_window_of plan (low_windows plan (drawn_squares layers)) i j) h).0 in
    let untaken = λ (i j : ℤ) (h : low_fill plan layers i j ≡ true). neither (conflicts plan layers.metal i j || crowded plan layers.fill i j) (blocked plan layers.keep i j) (and_parts (in_raster plan.raster i j) (not (is_taken plan layers i j)) (may i j h)).1 in
    let clear_of = λ (i j : ℤ) (h : low_fill plan layers i j ≡ true). neither (conflicts plan layers.metal i j) (crowded plan layers.fill i j) (untaken i j h).0 in
    record {
      on_raster = λ i j h. filled_on plan layers i j h;
      clear = λ i j h c. not_yes (conflicts plan layers.metal i j) (clear_of i j h).0 ((conflict_of_squares small layers.metal i j is).1 c);
      uncrowded = λ i j h c. not_yes (crowded plan layers.fill i j) (clear_of i j h).1 ((crowding_of_squares small layers.fill i j is).1 c);
      free = λ i j h c. not_yes (blocked plan layers.keep i j) (untaken i j h).1 ((blocked_sharing small layers.keep i j is).1 c);
      apart = λ i j k l h g other. boxes_apart small is i j k l other;
    }

-- rows that are told are in their order, and of so many
pub record AreRowsTold (count : ℕ) (rows : Rows) : Type 0 where
  pub ordered : rows.from ≤ rows.to
  pub within : rows.to ≤ count

-- ---- a part that looks at a window

module _ (values : Values) (k : Part) (numbers : AreChipNumbers values) (looks : some_below (looks_at (plan_of values) k) (plan_of values).windows.up.count ≡ true) where
  axes : AreAxes (plan_of values)
  axes = (any_size values numbers).axes

  chip : IsChipOf values k
  chip = part_chip values k axes looks

  smaller : IsSmaller (plan_of values) (chip_plan values k) (part_tiles values k) (part_windows (plan_of values) k)
  smaller = chip_smaller values k axes chip

  -- where there is no row of tiles, both rasters are one, without a place
  up_same : bands (plan_of values).raster.up ≡ 0 → (chip_plan values k).raster.up ≡ (plan_of values).raster.up
  up_same none = none_alone (plan_of values).raster.up (part_tiles values k) (none_of chip.rows).0 (none_of chip.rows).1
    where
      none_of : AreRowsOf (part_tiles values k) (bands (plan_of values).raster.up) → ((part_tiles values k).from ≡ 0) × ((part_tiles values k).to ≡ bands (plan_of values).raster.up)
      none_of are = elim are [
        | inl some ↦ absurd (let s = some.some in let w = some.within in omega (arith, s, w, none))
        | inr is ↦ (is.0, is.1 ∙ sym is.2)
      ]

  raster_same : bands (plan_of values).raster.up ≡ 0 → (chip_plan values k).raster ≡ (plan_of values).raster
  raster_same none = λ u. record { across = (plan_of values).raster.across; up = up_same none u }

  none_filled : bands (plan_of values).raster.up ≡ 0 → (layers : Layers) (i j : ℤ) → low_fill (plan_of values) layers i j ≡ false
  none_filled none layers i j = false_from_ne_true (low_fill (plan_of values) layers i j) (λ filled. no_place (plan_of values).raster i j (banded (plan_of values).raster.up axes.places_up) none (filled_on (plan_of values) layers i j filled))

  none_filled_there : bands (plan_of values).raster.up ≡ 0 → (layers : Layers) (i j : ℤ) → low_fill (chip_plan values k) layers i j ≡ false
  none_filled_there none layers i j = false_from_ne_true (low_fill (chip_plan values k) layers i j) (λ filled.
      no_place (plan_of values).raster i j (banded (plan_of values).raster.up axes.places_up) none (ap (λ (r : Lattice). in_raster r i j) (sym (raster_same none)) ∙ filled_on (chip_plan values k) layers i j filled))

  own_tiles : Rows
  own_tiles = counted_from (part_tiles values k).from (own_rows k (bands (plan_of values).raster.up))

  own_windows : Rows
  own_windows = counted_from (part_windows (plan_of values) k).from (own_rows k (plan_of values).windows.up.count)

  fill_held : (layers : Layers) → rows_fill (chip_plan values k) own_tiles (low_fill (chip_plan values k) layers) ≡ part_fill (plan_of values) layers k
  unfolding own_tiles
  fill_held layers = elim (cases_lt 0 (bands (plan_of values).raster.up)) [
    | inl some ↦ fun_ext (λ i. fun_ext (λ j.
        same_and (low_fill (chip_plan values k) layers i j) _ _ (λ filled.
        row_moved k (bands (plan_of values).raster.up) (part_tiles values k).from (band_of (chip_plan values k).raster.up j)
        ∙ ap (has_row k (bands (plan_of values).raster.up)) (sym (band_alone (plan_of values).raster.up (part_tiles values k) j (banded (plan_of values).raster.up axes.places_up)
        (some_rows (part_tiles values k) (bands (plan_of values).raster.up) chip.rows some)
        (and_parts (is_on (plan_of values).raster.across i) (is_on (chip_plan values k).raster.up j) (filled_on (chip_plan values k) layers i j filled)).1)))
        ∙ sym (fill_of_chip values k layers axes some looks i j)))
    | inr none ↦ (let zero : bands (plan_of values).raster.up ≡ 0 = omega (arith, none) in fun_ext (λ i. fun_ext (λ j.
        none_and (low_fill (chip_plan values k) layers i j) _ (none_filled_there zero layers i j) ∙ sym (none_and (low_fill (plan_of values) layers i j) _ (none_filled zero layers i j)))))
  ]

  stands_in : StandsIn values k (part_alone values k)
  stands_in = elim (cases_lt 0 (bands (plan_of values).raster.up)) [
    | inl some ↦ stands values k axes some looks
    | inr none ↦ (let zero : bands (plan_of values).raster.up ≡ 0 = omega (arith, none) in record {
      from = rw (up_same zero) (same (first (plan_of values).raster.up));
      to = rw (up_same zero) (same (past (plan_of values).raster.up));
      fill = λ layers i j filled. absurd (let e : false ≡ true = sym (none_and (low_fill (plan_of values) layers i j) _ (none_filled zero layers i j)) ∙ filled in cc);
    })
  ]
    where
      same : (z : ℤ) → z ≤ℤ z
      same z = omega (arith, ints)

  -- the part's lines by what its windows measure in its chip
  module _ (part : IsPart k) where
    told_rows : (metal boxes : PointSet) → part_lines (windows_of values) (limits_of values) (λ a b. measures_of metal boxes (chip_plan values k).windows a (b - (part_windows (plan_of values) k).from)) k
        ≡ rows_told (part_alone values k) own_windows (part_windows (plan_of values) k).from metal boxes
    unfolding own_windows
    told_rows metal boxes = elim (cases_lt low high) [
      | inl lt ↦ told_by (plan_of values) (chip_plan values k) (part_tiles values k) (part_windows (plan_of values) k) (limits_of values) (measures_of metal boxes (chip_plan values k).windows) k smaller
          axes.windows_across.count_is.least (own_within (plan_of values) k part)
          ∙ (ap (λ n. lines_above from (chip_plan values k).windows (limits_of values) (measures_of metal boxes (chip_plan values k).windows) ((low - from) * (chip_plan values k).windows.across.count) (n * (chip_plan values k).windows.across.count))
          (sym (moved low high from (own_within (plan_of values) k part lt).0 lt))
          ∙ ap (λ (r : Rows). rows_told (part_alone values k) r from metal boxes) (sym (counted_some from low high lt)))
      | inr le ↦ no_line (line_at (windows_of values) (limits_of values) (λ a b. measures_of metal boxes (chip_plan values k).windows a (b - from))) (low * (windows_of values).across.count) ((high - low) * (windows_of values).across.count)
          (no_row (high - low) (windows_of values).across.count (none low high le))
          ∙ (sym (no_line (line_above from (windows_of (part_alone values k)) (limits_of (part_alone values k)) (measures_of metal boxes (windows_of (part_alone values k)))) (0 * (windows_of (part_alone values k)).across.count) ((0 - 0) * (windows_of (part_alone values k)).across.count)
          (no_row (0 - 0) (windows_of (part_alone values k)).across.count refl))
          ∙ ap (λ (r : Rows). rows_told (part_alone values k) r from metal boxes) (sym (counted_none from low high le)))
    ]
      where
        from : ℕ
        from = (part_windows (plan_of values) k).from

        low : ℕ
        low = first_row k (plan_of values).windows.up.count

        high : ℕ
        high = past_row k (plan_of values).windows.up.count

        moved : (l h f : ℕ) → f ≤ l → l < h → (h - f) - (l - f) ≡ h - l
        moved l h f le lt = omega (arith, le, lt)

        none : (l h : ℕ) → h ≤ l → h - l ≡ 0
        none l h le = omega (arith, le)

    -- these rows are of the chip
    pub own_fit : (small : Values) → by_size (part_alone values k) ≡ Ok small → AreRowsTold (windows_of small).up.count (counted_from (part_windows (plan_of values) k).from (own_rows k (plan_of values).windows.up.count))
    own_fit small sized = subst (λ (v : Values). AreRowsTold (windows_of v).up.count (counted_from from (own_rows k (plan_of values).windows.up.count))) (sized_is (part_alone values k) small sized) (elim (cases_lt low high) [
      | inl lt ↦ (let w = own_within (plan_of values) k part lt in subst (λ (r : Rows). AreRowsTold (windows_of (part_alone values k)).up.count r) (sym (counted_some from low high lt))
          (record { ordered = ordered low high from lt; within = rw smaller.rows (within high (part_windows (plan_of values) k).to from w.1) }))
      | inr le ↦ subst (λ (r : Rows). AreRowsTold (windows_of (part_alone values k)).up.count r) (sym (counted_none from low high le)) (record { ordered = omega arith; within = none (windows_of (part_alone values k)).up.count })
    ])
      where
        from : ℕ
        from = (part_windows (plan_of values) k).from

        low : ℕ
        low = first_row k (plan_of values).windows.up.count

        high : ℕ
        high = past_row k (plan_of values).windows.up.count

        ordered : (l h f : ℕ) → l < h → l - f ≤ h - f
        ordered l h f lt = omega (arith, lt)

        within : (h t f : ℕ) → h ≤ t → h - f ≤ t - f
        within h t f le = omega (arith, le)

        none : (n : ℕ) → 0 ≤ n
        none n = omega arith

    -- the same lines of boxes that are the same in both
    lines_same : (metal u v : PointSet) → u ≡ v → part_lines (windows_of values) (limits_of values) (measures_of metal v (plan_of values).windows) k
        ≡ part_lines (windows_of values) (limits_of values) (λ a b. measures_of metal u (chip_plan values k).windows a (b - (part_windows (plan_of values) k).from)) k
    lines_same metal u v same =
        lines_by values k (measures_of metal v (plan_of values).windows) (λ a b. measures_of metal u (chip_plan values k).windows a (b - (part_windows (plan_of values) k).from)) axes.windows_across.count_is.least part
        (λ a b column below own.
        let row = chip_windows (plan_of values) k b below (true_or (has_windows (plan_of values) k b) _ own) in
        let from = (part_windows (plan_of values) k).from in
        let back : from + (b - from) ≡ b = there b from row.0 in
        let inside : b - from < (chip_plan values k).windows.up.count = rw smaller.rows (less b from (part_windows (plan_of values) k).to row.0 row.1) in
        sym (measures_alone (plan_of values) (chip_plan values k) (part_tiles values k) (part_windows (plan_of values) k) metal u v smaller same a (b - from) inside
        ∙ ap (λ n. measures_of metal v (plan_of values).windows a n) back))
      where
        there : (b f : ℕ) → f ≤ b → f + (b - f) ≡ b
        there b f le = omega (arith, le)

        less : (b f t : ℕ) → f ≤ b → b < t → b - f < t - f
        less b f t le lt = omega (arith, le, lt)

    lines_held : (layers : Layers) → rows_told (part_alone values k) own_windows (part_windows (plan_of values) k).from (drawn_squares layers) (boxes_of (chip_plan values k) (low_fill (chip_plan values k) layers)) ≡ part_report values (drawn_squares layers) (low_fill (plan_of values) layers) k
    lines_held layers = sym (elim (cases_lt 0 (bands (plan_of values).raster.up)) [
      | inl some ↦ lines_of_chip values k layers axes part some looks ∙ told_rows (drawn_squares layers) (boxes_of (chip_plan values k) (low_fill (chip_plan values k) layers))
      | inr none ↦ (let zero : bands (plan_of values).raster.up ≡ 0 = omega (arith, none) in
          lines_same (drawn_squares layers) (boxes_of (chip_plan values k) (low_fill (chip_plan values k) layers)) (boxes_of (plan_of values) (low_fill (plan_of values) layers)) (boxes_same zero)
          ∙ told_rows (drawn_squares layers) (boxes_of (chip_plan values k) (low_fill (chip_plan values k) layers)))
    ])
      where
        boxes_on : Lattice → PointSet
        boxes_on r x y = some_within (λ i j. low_fill (chip_plan values k) layers i j && box_squares r i j x y) (first r.across) (first r.up) (past r.across) (past r.up)

        boxes_same : bands (plan_of values).raster.up ≡ 0 → boxes_of (chip_plan values k) (low_fill (chip_plan values k) layers) ≡ boxes_of (plan_of values) (low_fill (plan_of values) layers)
        boxes_same zero =
            ap boxes_on (raster_same zero)
            ∙ ap (boxes_of (plan_of values)) (fun_ext (λ i. fun_ext (λ j. none_filled_there zero layers i j ∙ sym (none_filled zero layers i j))))

    checks_held : (metal : PointSet) → rows_told (part_alone values k) own_windows (part_windows (plan_of values) k).from metal nothing ≡ part_check values metal k
    checks_held metal = sym (lines_same metal nothing nothing refl ∙ told_rows metal nothing)

    pub held : (small : Values) → by_size (part_alone values k) ≡ Ok small → IsPlan (plan_of small)
        → HoldsPart values k small (counted_from (part_tiles values k).from (own_rows k (bands (plan_of values).raster.up))) (counted_from (part_windows (plan_of values) k).from (own_rows k (plan_of values).windows.up.count)) (part_windows (plan_of values) k).from
    unfolding own_tiles own_windows
    held small sized plan = subst (λ (v : Values). HoldsPart values k v own_tiles own_windows (part_windows (plan_of values) k).from) e (record {
      rows = rows_alone values (part_tiles values k) (part_windows (plan_of values) k);
      alone = refl;
      fill = fill_held;
      stands = stands_in;
      lines = lines_held;
      checks = checks_held;
      sound = λ layers. chip_sound values (rows_alone values (part_tiles values k) (part_windows (plan_of values) k)) layers (subst (λ (v : Values). IsPlan (plan_of v)) (sym e) plan);
    })
      where
        e : part_alone values k ≡ small
        e = sized_is (part_alone values k) small sized

-- ---- a part that looks at no window

-- the last part has the last row, so looks at it
pub last_looks : (k : Part) (a : Axis) (s : spans.Axis) → IsPart k → 1 ≤ s.count → some_below (looks_at_row (record { number = k.count - 1; count = k.count }) a s) s.count ≡ true
last_looks k a s part some = some_below_has (looks_at_row (record { number = k.count - 1; count = k.count }) a s) s.count (s.count - 1) (omega (arith, some))
    (true_or (has_row (record { number = k.count - 1; count = k.count }) s.count (s.count - 1)) _ (is_row_of (record { number = k.count - 1; count = k.count }) s.count (s.count - 1) (record { low = low; high = high })))
  where
    positive : 0 < k.count
    positive = let below = part.below in omega (arith, below)

    low : (k.count - 1) * s.count / k.count ≤ s.count - 1
    low = before ((k.count - 1) * s.count / k.count) s.count (div_below ((k.count - 1) * s.count) k.count s.count positive (fewer k.count s.count positive some))
      where
        before : (m n : ℕ) → m < n → m ≤ n - 1
        before m n lt = omega (arith, lt)

        fewer : (c n : ℕ) → 0 < c → 1 ≤ n → (c - 1) * n < n * c
        fewer c n some one = let e : (c - 1) * n + n ≡ n * c = whole c n some in omega (arith, e, one)
          where
            whole : (c n : ℕ) → 0 < c → (c - 1) * n + n ≡ n * c
            whole c n some = let b : (c - 1) + 1 ≡ c = omega (arith, some) in spread (c - 1) n ∙ ap (λ m. n * m) b
              where
                spread : (m n : ℕ) → m * n + n ≡ n * (m + 1)
                spread m n = grind arith

    high : s.count - 1 < (k.count - 1 + 1) * s.count / k.count
    high = let b : (k.count - 1) + 1 ≡ k.count = omega (arith, positive) in rw (b, cut_ends s.count k.count positive) (omega (arith, some))

-- any chip of some rows has nothing of the part
pub held_none : (values : Values) (k : Part) → AreChipNumbers values → IsPart k → some_below (looks_at (plan_of values) k) (plan_of values).windows.up.count ≡ false
    → (small : Values) → by_size (part_alone values (record { number = k.count - 1; count = k.count })) ≡ Ok small → IsPlan (plan_of small)
    → HoldsPart values k small (record { from = 0; to = 0 }) (record { from = 0; to = 0 }) 0
held_none values k numbers part none small sized plan =
    let other = held values last numbers looks last_is small sized plan in record {
      rows = other.rows;
      alone = other.alone;
      fill = λ layers. fun_ext (λ i. fun_ext (λ j. and_none (low_fill (plan_of small) layers i j) _ (none_in (band_of (plan_of small).raster.up j)) ∙ sym (empty.fill layers i j)));
      stands = record {
        from = other.stands.from;
        to = other.stands.to;
        fill = λ layers i j filled. absurd (let e : false ≡ true = sym (empty.fill layers i j) ∙ filled in cc);
      };
      lines = λ layers. nothing_told (drawn_squares layers) (boxes_of (plan_of small) (low_fill (plan_of small) layers)) ∙ sym (nothing_of (measures_of (drawn_squares layers) (boxes_of (plan_of values) (low_fill (plan_of values) layers)) (windows_of values)));
      checks = λ metal. nothing_told metal nothing ∙ sym (nothing_of (measures_of metal nothing (windows_of values)));
      sound = other.sound;
    }
  where
    last : Part
    last = record { number = k.count - 1; count = k.count }

    last_is : IsPart last
    last_is = let below = part.below in record { below = omega (arith, below); few = part.few }

    axes : AreAxes (plan_of values)
    axes = (any_size values numbers).axes

    looks : some_below (looks_at (plan_of values) last) (plan_of values).windows.up.count ≡ true
    looks = last_looks k (plan_of values).raster.up (plan_of values).windows.up part axes.windows_up.count_is.least

    empty : HasNothing values k
    empty = has_nothing values k axes none

    nothing_told : (metal boxes : PointSet) → rows_told small (record { from = 0; to = 0 }) 0 metal boxes ≡ []
    nothing_told metal boxes = no_line (line_above 0 (windows_of small) (limits_of small) (measures_of metal boxes (windows_of small))) (0 * (windows_of small).across.count) ((0 - 0) * (windows_of small).across.count) (no_row (0 - 0) (windows_of small).across.count refl)

    fewer : past_row k (plan_of values).windows.up.count ≤ first_row k (plan_of values).windows.up.count
    fewer = elim (cases_lt (first_row k (plan_of values).windows.up.count) (past_row k (plan_of values).windows.up.count)) [
      | inl lt ↦ absurd (
          let most = past_few k (plan_of values).windows.up.count part in
          let below : first_row k (plan_of values).windows.up.count < (plan_of values).windows.up.count = omega (arith, lt, most) in
          let e : true ≡ false = sym (is_row_of k (plan_of values).windows.up.count (first_row k (plan_of values).windows.up.count) (record { low = omega arith; high = lt })) ∙ empty.windows (first_row k (plan_of values).windows.up.count) below in
          cc
          )
      | inr le ↦ le
    ]

    nothing_of : (m : ℕ → ℕ → Measures) → part_lines (windows_of values) (limits_of values) m k ≡ []
    nothing_of m = no_line (line_at (windows_of values) (limits_of values) m) (first_row k (plan_of values).windows.up.count * (windows_of values).across.count)
        ((past_row k (plan_of values).windows.up.count - first_row k (plan_of values).windows.up.count) * (windows_of values).across.count)
        (no_row (past_row k (plan_of values).windows.up.count - first_row k (plan_of values).windows.up.count) (windows_of values).across.count (omega (arith, fewer)))

-- ---- as the code has them

pub held_as : (values : Values) (k : Part) (small : Values) (tiles windows t w : Rows) (below b : ℕ) → t ≡ tiles → w ≡ windows → b ≡ below → HoldsPart values k small tiles windows below → HoldsPart values k small t w b
held_as values k small tiles windows t w below b t_is w_is b_is held_it =
    subst (λ (n : ℕ). HoldsPart values k small t w n) (sym b_is) (subst (λ (r : Rows). HoldsPart values k small t r below) (sym w_is) (subst (λ (r : Rows). HoldsPart values k small r windows below) (sym t_is) held_it))

-- rows that are counted from another one on, as the code finds them
pub rows_as : (start end low : ℕ) (s e l : ℕ) (f t : ℕ) → f ≡ (counted_from l (record { from = s; to = e })).from → t ≡ (counted_from l (record { from = s; to = e })).to → s ≡ start → e ≡ end → l ≡ low
    → record { from = f; to = t } ≡ counted_from low (record { from = start; to = end })
rows_as start end low s e l f t f_is t_is s_is e_is l_is =
    both f t (counted_from l (record { from = s; to = e })) f_is t_is ∙ (λ i. counted_from (l_is i) (record { from = s_is i; to = e_is i }))
  where
    both : (f t : ℕ) (r : Rows) → f ≡ r.from → t ≡ r.to → record { from = f; to = t } ≡ r
    both f t r from to = λ i. record { from = from i; to = to i }

pub told_as : (count : ℕ) (rows r : Rows) → r ≡ rows → AreRowsTold count rows → AreRowsTold count r
told_as count rows r is told = subst (λ (x : Rows). AreRowsTold count x) (sym is) told

module _ (values : Values) (k : Part) (a : Axis) (s : spans.Axis) (a_is : a ≡ (raster_of values.numbers).up) (s_is : s ≡ (whole_windows values.numbers).up) where
  s_path : s ≡ (plan_of values).windows.up
  s_path = s_is ∙ sym (windows_up values)

  pub tiles_as : (n start end low f t : ℕ) → n ≡ bands a → start ≡ first_row k n → end ≡ past_row k n → low ≡ (chip_tiles values.ignores k a s).from → f ≡ (counted_from low (record { from = start; to = end })).from → t ≡ (counted_from low (record { from = start; to = end })).to
      → record { from = f; to = t } ≡ counted_from (part_tiles values k).from (own_rows k (bands (plan_of values).raster.up))
  tiles_as n start end low f t n_is start_is end_is low_is f_is t_is =
      let count : n ≡ bands (plan_of values).raster.up = n_is ∙ ap bands a_is in
      rows_as (first_row k (bands (plan_of values).raster.up)) (past_row k (bands (plan_of values).raster.up)) (part_tiles values k).from start end low f t f_is t_is (start_is ∙ ap (first_row k) count) (end_is ∙ ap (past_row k) count)
      (low_is ∙ (λ i. (chip_tiles values.ignores k (a_is i) (s_path i)).from))

  pub below_is : (low : ℕ) → low ≡ (looked_at_windows k a s).from → low ≡ (part_windows (plan_of values) k).from
  below_is low low_is = low_is ∙ (λ i. (looked_at_windows k (a_is i) (s_path i)).from)

  pub windows_as : (start end low f t : ℕ) → start ≡ first_row k s.count → end ≡ past_row k s.count → low ≡ (looked_at_windows k a s).from → f ≡ (counted_from low (record { from = start; to = end })).from → t ≡ (counted_from low (record { from = start; to = end })).to
      → record { from = f; to = t } ≡ counted_from (part_windows (plan_of values) k).from (own_rows k (plan_of values).windows.up.count)
  windows_as start end low f t start_is end_is low_is f_is t_is =
      rows_as (first_row k (plan_of values).windows.up.count) (past_row k (plan_of values).windows.up.count) (part_windows (plan_of values) k).from start end low f t f_is t_is (start_is ∙ ap (λ (r : spans.Axis). first_row k r.count) s_path)
      (end_is ∙ ap (λ (r : spans.Axis). past_row k r.count) s_path) (below_is low low_is)
