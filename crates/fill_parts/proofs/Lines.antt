-- The lines of a chip are the same for metals that agree where it looks.
use Rattle.std.proofs.Common.{◌≡◌, refl, ap, ◌∙◌, ℕ, zero, suc, ◌+◌, ◌*◌, ◌-◌, ◌/◌, ◌%◌, ◌<◌, ◌≤◌, arith, pos, true, ◌||◌, List, ◌++◌}
use Rattle.std.specs.List.{flat_map, range_with_len}
use Rattle.std.proofs.lemmas.Nat.{le-div, div_below, mod_below}
use Rattle.fill_text.specs.Rules.{Values, limits_of, windows_of}
use Rattle.fill_job.specs.Plans.{PointSet, drawn_squares, plan_of}
use Rattle.fill_core.specs.Boxes.{low_fill}
use Rattle.fill_report.specs.BookReport.{boxes_of}
use Rattle.fill_report.specs.Report.{line_above, line_at, measures_of, told_line, window_line}
use Rattle.fill_report.specs.declared.line.Measures.{Measures}
use Rattle.fill_parts.specs.Cuts.{Part, IsPart, first_row, past_row}
use Rattle.fill_parts.specs.Needs.{has_windows, window_sides}
use Rattle.fill_parts.specs.PartChip.{rows_told}
use Rattle.fill_parts.specs.PartReport.{part_lines}
use Rattle.fill_parts.specs.Smaller.{Rows}
use Rattle.fill_parts.specs.Laws.{LinesAgree}
use Rattle.fill_parts.proofs.Agreeing.{agree_at, areas_agree, drawn_agree, fills_agree, window_same}
use Rattle.fill_parts.proofs.Cutting.{cut_le, cut_ends, is_row_of}

-- ---- lines one after another

pub flat_range : {A : Type 0} (f g : ℕ → List A) (a n : ℕ) → ((k : ℕ) → a ≤ k → k < a + n → f k ≡ g k) → flat_map f (range_with_len a n) ≡ flat_map g (range_with_len a n)
flat_range f g a zero each = refl
flat_range f g a (suc n) each =
    ap (λ t. t ++ flat_map f (range_with_len (a + 1) n)) (each a (omega arith) (omega arith))
    ∙ ap (λ t. g a ++ t) (flat_range f g (a + 1) n (λ k low high. each k (omega (arith, low)) (omega (arith, high))))

-- ---- the measures of a window

pub same_measures : (m n : Measures) → m.drawn ≡ n.drawn → m.fill ≡ n.fill → m.total ≡ n.total → m ≡ n
same_measures m n drawn fill total = λ k. record { drawn = drawn k; fill = fill k; total = total k }

-- ---- the line at a place of the report

pub row_bounds : (n c low high : ℕ) → 0 < c → low * c ≤ n → n < low * c + (high - low) * c → low ≤ high → (low ≤ n / c) × (n / c < high)
row_bounds n c low high some from to le = (le-div low n c some from, div_below n c high some (below n (low * c) ((high - low) * c) (high * c) to (whole low high c le)))
  where
    whole : (low high c : ℕ) → low ≤ high → low * c + (high - low) * c ≡ high * c
    whole low high c le = let e : low + (high - low) ≡ high = omega (arith, le) in spread low (high - low) c ∙ ap (λ n. n * c) e
      where
        spread : (m n c : ℕ) → m * c + n * c ≡ (m + n) * c
        spread m n c = grind arith

    below : (n a b c : ℕ) → n < a + b → a + b ≡ c → n < c
    below n a b c lt e = omega (arith, lt, e)

-- lines of a part whose measures are the same in its windows
pub lines_by : (values : Values) (k : Part) (m n : ℕ → ℕ → Measures) → 1 ≤ (plan_of values).windows.across.count → IsPart k
    → ((a b : ℕ) → a < (plan_of values).windows.across.count → b < (plan_of values).windows.up.count → has_windows (plan_of values) k b ≡ true → m a b ≡ n a b)
    → part_lines (windows_of values) (limits_of values) m k ≡ part_lines (windows_of values) (limits_of values) n k
lines_by values k m n some_columns part each =
    let g = (plan_of values).windows in
    let low = first_row k g.up.count in let high = past_row k g.up.count in
    let some = count_some k.number k.count part.below in
    let rise = cut_le g.up.count k.count k.number (k.number + 1) some (more k.number) in
    let most : high ≤ g.up.count = rw (cut_ends g.up.count k.count some) at (cut_le g.up.count k.count (k.number + 1) k.count some (up k.number k.count part.below)) in
    let columns : 0 < g.across.count = one_some g.across.count some_columns in
    flat_range (line_at g (limits_of values) m) (line_at g (limits_of values) n) (low * g.across.count) ((high - low) * g.across.count)
    (λ l from to.
    let row = row_bounds l g.across.count low high columns from to rise in
    let own = is_row_of k g.up.count (l / g.across.count) (record { low = row.0; high = row.1 }) in
    ap (λ t. window_line g (limits_of values) t (l % g.across.count) (l / g.across.count))
    (each (l % g.across.count) (l / g.across.count) (mod_below l g.across.count columns) (below _ _ _ row.1 most) own))
  where
    count_some : (k n : ℕ) → k < n → 0 < n
    count_some k n h = omega (arith, h)

    one_some : (n : ℕ) → 1 ≤ n → 0 < n
    one_some n h = omega (arith, h)

    more : (n : ℕ) → n ≤ n + 1
    more n = omega arith

    up : (k n : ℕ) → k < n → k + 1 ≤ n
    up k n h = omega (arith, h)

    below : (a b c : ℕ) → a < b → b ≤ c → a < c
    below a b c h k = omega (arith, h, k)

-- the lines of some rows, told with as many rows more
pub told_alike : (values : Values) (rows : Rows) (below : ℕ) (m n : ℕ → ℕ → Measures) → 1 ≤ (windows_of values).across.count → rows.from ≤ rows.to → rows.to ≤ (windows_of values).up.count
    → ((a b : ℕ) → a < (windows_of values).across.count → b < (windows_of values).up.count → rows.from ≤ b → b < rows.to → m a b ≡ n a b)
    → flat_map (line_above below (windows_of values) (limits_of values) m) (range_with_len (rows.from * (windows_of values).across.count) ((rows.to - rows.from) * (windows_of values).across.count))
    ≡ flat_map (line_above below (windows_of values) (limits_of values) n) (range_with_len (rows.from * (windows_of values).across.count) ((rows.to - rows.from) * (windows_of values).across.count))
told_alike values rows below m n some ordered within each =
    flat_range (line_above below (windows_of values) (limits_of values) m) (line_above below (windows_of values) (limits_of values) n) (rows.from * (windows_of values).across.count) ((rows.to - rows.from) * (windows_of values).across.count)
    (λ l from to.
    let columns : 0 < (windows_of values).across.count = positive (windows_of values).across.count some in
    let row = row_bounds l (windows_of values).across.count rows.from rows.to columns from to ordered in
    ap (λ t. told_line (windows_of values) (limits_of values) t (l % (windows_of values).across.count) (l / (windows_of values).across.count) (below + l / (windows_of values).across.count))
    (each (l % (windows_of values).across.count) (l / (windows_of values).across.count) (mod_below l (windows_of values).across.count columns) (under _ _ _ row.1 within) row.0 row.1))
  where
    positive : (n : ℕ) → 1 ≤ n → 0 < n
    positive n h = omega (arith, h)

    under : (a b c : ℕ) → a < b → b ≤ c → a < c
    under a b c h k = omega (arith, h, k)

-- ---- the lines of layers that agree

pub lines_agree : LinesAgree
lines_agree values rows below s p q is enough agree ordered within =
    let plan = plan_of values in
    let v = boxes_of plan (low_fill plan q) in
    ap (λ (f : PointSet). rows_told values rows below (drawn_squares p) (boxes_of plan f)) (fills_agree plan s p q is enough agree)
    ∙ told_alike values rows below (measures_of (drawn_squares p) v plan.windows) (measures_of (drawn_squares q) v plan.windows) is.windows.across.count_is.least ordered within
    (λ a b column row from to.
    let drawn = drawn_agree s p q agree in
    let there = agree_at s (window_sides plan.windows a b) (drawn_squares p) (drawn_squares q) drawn (enough.windows a b column row) in
    same_measures _ _ (ap pos (areas_agree plan s (drawn_squares p) (drawn_squares q) is enough drawn a b column row)) refl
    (ap pos (window_same (λ x y. drawn_squares p x y || v x y) (λ x y. drawn_squares q x y || v x y) plan.windows a b is.windows.across.length_is is.windows.up.length_is
    (λ x y left right low high. ap (λ c. c || v x y) (there x y left right low high)))))
