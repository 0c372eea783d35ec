-- The lines that a part's chip tells.
use Rattle.std.proofs.Common.{◌≡◌, refl, ap, sym, ◌∙◌, ℕ, zero, suc, ◌+◌, ◌-◌, ◌*◌, ◌/◌, ◌%◌, ◌<◌, ◌≤◌, inl, inr, arith, ℤ, pos, List, [], ◌∷◌, ◌++◌}
use Rattle.std.specs.List.{flat_map, range_with_len}
use Rattle.std.proofs.Math.Nat.{add-mul-div_right, add-mul-mod_self_right}
use Rattle.std.proofs.lemmas.Bool.{cases_lt}
use Rattle.std.proofs.lemmas.Nat.{div_below}
use Rattle.fill_area.specs.Axes.{axis_begin, axis_end}
use Rattle.fill_area.specs.Grid.{counted_size, window_bottom, window_left, window_right, window_top}
use Rattle.fill_text.specs.Rules.{limits_of}
use Rattle.fill_text.specs.declared.limits.Limits.{Limits}
use Rattle.fill_job.specs.Plans.{Plan, drawn_squares, plan_of}
use Rattle.fill_core.specs.Boxes.{low_fill}
use Rattle.fill_report.specs.BookReport.{boxes_of}
use Rattle.fill_report.specs.Report.{density_of, line_above, line_at, line_text, lines_above, measures_of, share_of, told_line}
use Rattle.fill_report.specs.declared.line.Measures.{Measures}
use Rattle.fill_parts.specs.Cuts.{Part, IsPart, first_row, past_row}
use Rattle.fill_parts.specs.Laws.{PartLinesAreTold}
use Rattle.fill_parts.specs.Needs.{has_windows}
use Rattle.fill_parts.specs.PartChip.{chip_plan, part_tiles, part_windows}
use Rattle.fill_parts.specs.PartReport.{part_lines}
use Rattle.fill_parts.specs.Smaller.{IsSmaller, Rows}
use Rattle.fill_parts.proofs.Cutting.{cut_ends, cut_le, is_row_of}
use Rattle.fill_parts.proofs.Looking.{chip_windows, part_chip, true_or}
use Rattle.fill_parts.proofs.PartOfChip.{chip_smaller, lines_of_chip}
use Rattle.fill_parts.proofs.RowsAlone.{bottom_alone, size_alone, top_alone}

-- what numbers further on give is what these give
shifted : {A : Type 0} (f g : ℕ → List A) (a d b n : ℕ) → b ≡ a + d → ((k : ℕ) → a ≤ k → k < a + n → f (k + d) ≡ g k) → flat_map f (range_with_len b n) ≡ flat_map g (range_with_len a n)
shifted f g a d b zero b_is each = refl
shifted f g a d b (suc n) b_is each =
    ap (λ t. t ++ flat_map f (range_with_len (b + 1) n)) (ap f b_is ∙ each a (omega arith) (omega arith))
    ∙ ap (λ t. g a ++ t) (shifted f g (a + 1) d (b + 1) n (omega (arith, b_is)) (λ k low high. each k (omega (arith, low)) (omega (arith, high))))

-- a line by the numbers that it tells, and by what counts of its window
abbrev line_by : Limits → Measures → ℕ → ℕ → ℤ → ℤ → ℤ → ℤ → ℤ → List ℕ
line_by limits m a row left bottom right top size =
    line_text (pos a ∷ pos row ∷ left ∷ bottom ∷ right ∷ top ∷ m.drawn ∷ m.fill ∷ m.total ∷ share_of m.total size ∷ []) (density_of m.total limits size)

by_same : (limits : Limits) (m : Measures) (a row : ℕ) (l k b c r s t u n o : ℤ) → l ≡ k → b ≡ c → r ≡ s → t ≡ u → n ≡ o → line_by limits m a row l b r t n ≡ line_by limits m a row k c s u o
by_same limits m a row l k b c r s t u n o left bottom right top size =
    ap (λ z. line_by limits m a row z b r t n) left
    ∙ (ap (λ z. line_by limits m a row k z r t n) bottom
    ∙ (ap (λ z. line_by limits m a row k c z t n) right
    ∙ (ap (λ z. line_by limits m a row k c s z n) top
    ∙ ap (λ z. line_by limits m a row k c s u z) size)))

-- a window is told alike by both, if its row is
line_same : (whole small : Plan) (tiles windows : Rows) (limits : Limits) (m : Measures) (a b row : ℕ) → IsSmaller whole small tiles windows → b < small.windows.up.count
    → told_line whole.windows limits m a (windows.from + b) row ≡ told_line small.windows limits m a b row
line_same whole small tiles windows limits m a b row is lt =
    by_same limits m a row (window_left whole.windows a) (window_left small.windows a) (window_bottom whole.windows (windows.from + b)) (window_bottom small.windows b) (window_right whole.windows a) (window_right small.windows a)
    (window_top whole.windows (windows.from + b)) (window_top small.windows b) (counted_size whole.windows a (windows.from + b)) (counted_size small.windows a b)
    (ap (λ s. axis_begin s a) (sym is.columns)) (sym (bottom_alone whole small tiles windows is b)) (ap (λ s. axis_end s a) (sym is.columns)) (sym (top_alone whole small tiles windows is b))
    (sym (size_alone whole small tiles windows is a b lt))

pub no_row : (n c : ℕ) → n ≡ 0 → n * c ≡ 0
no_row n c none = ap (λ k. k * c) none ∙ nothing c
  where
    nothing : (c : ℕ) → 0 * c ≡ 0
    nothing c = omega arith

pub no_line : (f : ℕ → List ℕ) (b n : ℕ) → n ≡ 0 → flat_map f (range_with_len b n) ≡ []
no_line f b n none = ap (λ k. flat_map f (range_with_len b k)) none

-- the part's lines by its chip's windows
pub told_by : (whole small : Plan) (tiles windows : Rows) (limits : Limits) (m : ℕ → ℕ → Measures) (k : Part) → IsSmaller whole small tiles windows → 1 ≤ whole.windows.across.count
    → (first_row k whole.windows.up.count < past_row k whole.windows.up.count → (windows.from ≤ first_row k whole.windows.up.count) × (past_row k whole.windows.up.count ≤ windows.to))
    → part_lines whole.windows limits (λ a b. m a (b - windows.from)) k
    ≡ lines_above windows.from small.windows limits m ((first_row k whole.windows.up.count - windows.from) * small.windows.across.count) ((past_row k whole.windows.up.count - first_row k whole.windows.up.count) * small.windows.across.count)
told_by whole small tiles windows limits m k is some within = elim (cases_lt low high) [
  | inl lt ↦ (let rows = within lt in
      shifted (line_at whole.windows limits (λ a b. m a (b - windows.from))) (line_above windows.from small.windows limits m) ((low - windows.from) * c) (windows.from * c) (low * c) ((high - low) * c) (begun low windows.from c rows.0)
      (λ n from to. line n (in_rows n rows.0 rows.1 lt to))
      ∙ ap (λ w. flat_map (line_above windows.from small.windows limits m) (range_with_len ((low - windows.from) * w) ((high - low) * w))) (sym columns))
  | inr le ↦ (let none : high - low ≡ 0 = omega (arith, le) in
      no_line (line_at whole.windows limits (λ a b. m a (b - windows.from))) (low * c) ((high - low) * c) (no_row (high - low) c none)
      ∙ sym (no_line (line_above windows.from small.windows limits m) ((low - windows.from) * small.windows.across.count) ((high - low) * small.windows.across.count) (no_row (high - low) small.windows.across.count none)))
]
  where
    low : ℕ
    low = first_row k whole.windows.up.count

    high : ℕ
    high = past_row k whole.windows.up.count

    c : ℕ
    c = whole.windows.across.count

    columns : small.windows.across.count ≡ whole.windows.across.count
    columns = ap (λ s. s.count) is.columns

    spread : (m n c : ℕ) → m * c + n * c ≡ (m + n) * c
    spread m n c = grind arith

    begun : (l f c : ℕ) → f ≤ l → l * c ≡ (l - f) * c + f * c
    begun l f c le = let e : (l - f) + f ≡ l = omega (arith, le) in sym (spread (l - f) f c ∙ ap (λ n. n * c) e)

    in_rows : (n : ℕ) → windows.from ≤ low → high ≤ windows.to → low < high → n < (low - windows.from) * c + (high - low) * c → n / c < small.windows.up.count
    in_rows n from to lt below = rw is.rows (less (div_below n c (high - windows.from) some (under below)))
      where
        under : n < (low - windows.from) * c + (high - low) * c → n < (high - windows.from) * c
        under h = let e : (low - windows.from) + (high - low) ≡ high - windows.from = omega (arith, from, lt) in let s = spread (low - windows.from) (high - low) c ∙ ap (λ n. n * c) e in omega (arith, h, s)

        less : n / c < high - windows.from → n / c < windows.to - windows.from
        less h = omega (arith, h, to)

    line : (n : ℕ) → n / c < small.windows.up.count → line_at whole.windows limits (λ a b. m a (b - windows.from)) (n + windows.from * c) ≡ line_above windows.from small.windows limits m n
    line n lt =
        let column = add-mul-mod_self_right n windows.from c in
        let row : (n + windows.from * c) / c ≡ windows.from + n / c = add-mul-div_right n windows.from some ∙ turned (n / c) windows.from in
        let back = again windows.from (n / c) in
        ap (λ x. told_line whole.windows limits (m x ((n + windows.from * c) / c - windows.from)) x ((n + windows.from * c) / c) ((n + windows.from * c) / c)) column
        ∙ (ap (λ y. told_line whole.windows limits (m (n % c) (y - windows.from)) (n % c) y y) row
        ∙ (ap (λ z. told_line whole.windows limits (m (n % c) z) (n % c) (windows.from + n / c) (windows.from + n / c)) back
        ∙ (line_same whole small tiles windows limits (m (n % c) (n / c)) (n % c) (n / c) (windows.from + n / c) is lt
        ∙ ap (λ w. told_line small.windows limits (m (n % w) (n / w)) (n % w) (n / w) (windows.from + n / w)) (sym columns))))
      where
        turned : (a b : ℕ) → a + b ≡ b + a
        turned a b = omega arith

        again : (f b : ℕ) → (f + b) - f ≡ b
        again f b = omega arith

pub past_few : (k : Part) (rows : ℕ) → IsPart k → past_row k rows ≤ rows
past_few k rows part = rw (cut_ends rows k.count (some k.number k.count part.below)) at (cut_le rows k.count (k.number + 1) k.count (some k.number k.count part.below) (next k.number k.count part.below))
  where
    some : (n c : ℕ) → n < c → 0 < c
    some n c lt = omega (arith, lt)

    next : (n c : ℕ) → n < c → n + 1 ≤ c
    next n c lt = omega (arith, lt)

-- the part's own rows of windows are of its chip's
pub own_within : (plan : Plan) (k : Part) → IsPart k → first_row k plan.windows.up.count < past_row k plan.windows.up.count
    → ((part_windows plan k).from ≤ first_row k plan.windows.up.count) × (past_row k plan.windows.up.count ≤ (part_windows plan k).to)
own_within plan k part lt = (low, high)
  where
    rows : ℕ
    rows = plan.windows.up.count

    own : (b : ℕ) → first_row k rows ≤ b → b < past_row k rows → ((part_windows plan k).from ≤ b) × (b < (part_windows plan k).to)
    own b from to = chip_windows plan k b (below b to) (true_or (has_windows plan k b) _ (is_row_of k rows b (record { low = from; high = to })))
      where
        below : (b : ℕ) → b < past_row k rows → b < rows
        below b h = let most = past_few k rows part in omega (arith, h, most)

    low : (part_windows plan k).from ≤ first_row k rows
    low = (own (first_row k rows) (omega arith) lt).0

    high : past_row k rows ≤ (part_windows plan k).to
    high = let last = (own (past_row k rows - 1) (omega (arith, lt)) (omega (arith, lt))).1 in omega (arith, last, lt)

pub lines_told : PartLinesAreTold
lines_told values k layers is part some looks =
    lines_of_chip values k layers is part some looks
    ∙ told_by (plan_of values) (chip_plan values k) (part_tiles values k) (part_windows (plan_of values) k) (limits_of values)
    (measures_of (drawn_squares layers) (boxes_of (chip_plan values k) (low_fill (chip_plan values k) layers)) (chip_plan values k).windows) k (chip_smaller values k is (part_chip values k is looks)) is.windows_across.count_is.least (own_within (plan_of values) k part)
