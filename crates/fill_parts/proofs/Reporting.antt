-- Lines of rows that follow one another.
use Rattle.std.proofs.Common.{◌≡◌, refl, ap, sym, ◌∙◌, ℕ, zero, suc, ◌+◌, ◌*◌, ◌-◌, ◌<◌, ◌≤◌, arith, List, [], ◌∷◌, ◌++◌}
use Rattle.std.specs.List.{flat_map, range_with_len}
use Rattle.std.proofs.lemmas.Grind.{flat_map-append}
use Rattle.fill_area.specs.Grid.{Grid}
use Rattle.fill_text.specs.Rules.{limits_of, windows_of}
use Rattle.fill_text.specs.declared.limits.Limits.{Limits}
use Rattle.fill_job.specs.Plans.{plan_of}
use Rattle.fill_report.specs.BookReport.{boxes_of}
use Rattle.fill_report.specs.Report.{first_lines, line_at, lines_from, measures_of, nothing}
use Rattle.fill_report.specs.declared.line.Measures.{Measures}
use Rattle.fill_parts.specs.Cuts.{cut}
use Rattle.fill_parts.specs.PartReport.{rows_lines, part_lines}
use Rattle.fill_parts.specs.Laws.{PartsMakeTheCheck, PartsMakeTheReport, RowsFollow, part}
use Rattle.fill_parts.proofs.Cutting.{cut_begins, cut_ends, cut_le}

-- a range is two that follow one another
pub range_split : (a m n : ℕ) → range_with_len a (m + n) ≡ range_with_len a m ++ range_with_len (a + m) n
range_split a zero n = let e : zero + n ≡ n = omega arith in let z : a + zero ≡ a = omega arith in rw (e, z) refl
range_split a (suc m) n =
    let e : suc m + n ≡ suc (m + n) = omega arith in
    let at : (a + 1) + m ≡ a + suc m = omega arith in
    rw e (ap (λ t. a ∷ t) (range_split (a + 1) m n ∙ ap (λ z. range_with_len (a + 1) m ++ range_with_len z n) at))

pub lines_split : (g : Grid) (limits : Limits) (measures : ℕ → ℕ → Measures) (from m n : ℕ)
    → lines_from g limits measures from m ++ lines_from g limits measures (from + m) n ≡ lines_from g limits measures from (m + n)
lines_split g limits measures from m n =
    sym (ap (flat_map (line_at g limits measures)) (range_split from m n) ∙ flat_map-append (line_at g limits measures) (range_with_len from m) (range_with_len (from + m) n))

rest_of : (low middle high c : ℕ) → low ≤ middle → middle ≤ high → (low * c + (middle - low) * c ≡ middle * c) × ((middle - low) * c + (high - middle) * c ≡ (high - low) * c)
rest_of low middle high c h k =
    let a : low + (middle - low) ≡ middle = omega (arith, h) in
    let b : (middle - low) + (high - middle) ≡ high - low = omega (arith, h, k) in
    (sym (spread low (middle - low) c) ∙ ap (λ n. n * c) a, sym (spread (middle - low) (high - middle) c) ∙ ap (λ n. n * c) b)
  where
    spread : (m n c : ℕ) → (m + n) * c ≡ m * c + n * c
    spread m n c = grind arith

pub rows_follow : RowsFollow
rows_follow g limits measures low middle high h k =
    let c = g.across.count in
    let e = rest_of low middle high c h k in
    ap (λ z. lines_from g limits measures (low * c) ((middle - low) * c) ++ lines_from g limits measures z ((high - middle) * c)) (sym e.0)
    ∙ (lines_split g limits measures (low * c) ((middle - low) * c) ((high - middle) * c)
    ∙ ap (lines_from g limits measures (low * c)) e.1)

-- the first `n` parts have the lines of all rows before the next one
first_parts : (g : Grid) (limits : Limits) (measures : ℕ → ℕ → Measures) (rows count n : ℕ) → 0 < count → rows ≡ g.up.count
    → flat_map (λ k. part_lines g limits measures (part k count)) (range_with_len 0 n) ≡ rows_lines g limits measures 0 (cut rows count n)
first_parts g limits measures rows count zero some e =
    let none : cut rows count 0 ≡ 0 = cut_begins rows count some in
    let nothing : (0 - 0) * g.across.count ≡ 0 = omega arith in
    rw (none, nothing) refl
first_parts g limits measures rows count (suc n) some e =
    let f = λ (k : ℕ). part_lines g limits measures (part k count) in
    let one : suc n ≡ n + 1 = omega arith in
    let at : 0 + n ≡ n = omega arith in
    let last : flat_map f (range_with_len (0 + n) 1) ≡ rows_lines g limits measures (cut rows count n) (cut rows count (n + 1)) = rw (at, e) (alone (f n)) in
    ap (λ z. flat_map f (range_with_len 0 z)) one
    ∙ (ap (flat_map f) (range_split 0 n 1)
    ∙ (flat_map-append f (range_with_len 0 n) (range_with_len (0 + n) 1)
    ∙ (ap (λ t. t ++ flat_map f (range_with_len (0 + n) 1)) (first_parts g limits measures rows count n some e)
    ∙ (ap (λ t. rows_lines g limits measures 0 (cut rows count n) ++ t) last
    ∙ (rows_follow g limits measures 0 (cut rows count n) (cut rows count (n + 1)) (none (cut rows count n)) (cut_le rows count n (n + 1) some (more n))
    ∙ ap (λ z. rows_lines g limits measures 0 (cut rows count z)) (sym one))))))
  where
    alone : {A : Type 0} (xs : List A) → xs ++ [] ≡ xs
    alone [] = refl
    alone (x ∷ xs) = ap (λ t. x ∷ t) (alone xs)

    none : (n : ℕ) → 0 ≤ n
    none n = omega arith

    more : (n : ℕ) → n ≤ n + 1
    more n = omega arith

pub all_lines : (g : Grid) (limits : Limits) (measures : ℕ → ℕ → Measures) (count : ℕ) → 0 < count
    → flat_map (λ k. part_lines g limits measures (part k count)) (range_with_len 0 count) ≡ first_lines g limits measures (g.across.count * g.up.count)
all_lines g limits measures count some =
    first_parts g limits measures g.up.count count count some refl
    ∙ (ap (rows_lines g limits measures 0) (cut_ends g.up.count count some) ∙ whole)
  where
    whole : rows_lines g limits measures 0 g.up.count ≡ first_lines g limits measures (g.across.count * g.up.count)
    whole =
        let none : 0 * g.across.count ≡ 0 = omega arith in
        let all : (g.up.count - 0) * g.across.count ≡ g.across.count * g.up.count = let z : g.up.count - 0 ≡ g.up.count = omega arith in rw z (grind arith) in
        rw (none, all) refl

pub parts_report : PartsMakeTheReport
parts_report values metal fill count some =
    let g = windows_of values in
    all_lines g (limits_of values) (measures_of metal (boxes_of (plan_of values) fill) g) count some

pub parts_check : PartsMakeTheCheck
parts_check values metal count some =
    let g = windows_of values in
    all_lines g (limits_of values) (measures_of metal nothing g) count some
