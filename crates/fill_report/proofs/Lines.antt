-- The lines of a report, one after another.
use Rattle.std.proofs.Common.{◌≡◌, ℕ, zero, suc, ◌+◌, ◌-◌, ◌*◌, ◌/◌, ◌%◌, ◌≤◌, ◌<◌, min, ℤ, pos, ◌+ℤ◌, ◌≤ℤ◌, ◌<ℤ◌, List, [], ◌∷◌, ◌++◌, get_or, length, refl, arith, ap, ◌∙◌, sym, w64, FitsSigned, Some, Bool, false, true, ◌||◌}
use Rattle.std.specs.Global.{Vec}
use Rattle.std.specs.List.{flat_map, range_with_len, All}
use Rattle.std.specs.Vec.{vec_items}
use Rattle.std.proofs.lemmas.List.{append-nil, append_assoc}
use Rattle.std.proofs.lemmas.List.FromFn.{get_or-map-range_with_len, length-map-range_with_len}
use Rattle.fill_base.proofs.Signed.{read, read_is}
use Rattle.std.specs.Int.{div_ceil, int_max, int_min}
use Rattle.std.proofs.lemmas.Int.{ints}
use Rattle.fill_base.specs.Counts.{span_len}
use Rattle.fill_base.specs.Limits.{IsLength}
use Rattle.fill_area.specs.Axes.{axis_begin}
use Rattle.fill_area.specs.Grid.{Grid, IsGrid, parts_across, parts_up}
use Rattle.fill_area.specs.Parts.{part_begin, part_end}
use Rattle.fill_area.specs.declared.parts.Parts.{Parts}
use Rattle.fill_area.specs.Density.{IsArea, window_area}
use Rattle.fill_area.proofs.Measuring.{area_at, same_area, no_area}
use Rattle.fill_text.specs.declared.limits.Limits.{Limits}
use Rattle.fill_report.specs.declared.line.Measures.{Measures}
use Rattle.fill_report.specs.Report.{AreDrawn, first_lines, line_above, line_at, lines_above, lines_from, metal_alone, told_line, windows_text, measures_of, nothing}
use Rattle.fill_report.proofs.Joining.{ranges_joined}
use Rattle.fill_measure.specs.Sums.{areas_from}
use Rattle.fill_report.specs.Writing.{Lines, written}
use Rattle.fill_area.proofs.Shares.{area_read}

-- some lines, and those behind them
pub lines_split : (f : ℕ → List ℕ) (a n m : ℕ) → flat_map f (range_with_len a (n + m)) ≡ flat_map f (range_with_len a n) ++ flat_map f (range_with_len (a + n) m)
lines_split f a zero m =
    let none : zero + m ≡ m = omega arith in
    let here : a ≡ a + zero = omega arith in
    ap (λ k. flat_map f (range_with_len a k)) none ∙ ap (λ b. flat_map f (range_with_len b m)) here
lines_split f a (suc n) m =
    let e : suc n + m ≡ suc (n + m) = omega arith in
    let at : (a + 1) + n ≡ a + suc n = omega arith in
    rw e (ap (λ t. f a ++ t) (lines_split f (a + 1) n m) ∙ (ap (λ b. f a ++ (flat_map f (range_with_len (a + 1) n) ++ flat_map f (range_with_len b m))) at
    ∙ sym (append_assoc (f a) (flat_map f (range_with_len (a + 1) n)) (flat_map f (range_with_len (a + suc n) m)))))

-- one line more
one_more : (f : ℕ → List ℕ) (a n : ℕ) → flat_map f (range_with_len a (n + 1)) ≡ flat_map f (range_with_len a n) ++ f (a + n)
one_more f a n = lines_split f a n 1 ∙ ap (λ t. flat_map f (range_with_len a n) ++ t) (append-nil (f (a + n)))

-- the measures of a window with this area of metal, as the code reads it
drawn_at : (g : Grid) (from : ℕ) (areas : List ℤ) (measures : ℕ → ℕ → Measures) (i : ℕ) → i < length areas → All IsArea areas → AreDrawn g from areas measures
    → let m : Measures = record { drawn = read (get_or areas i (pos 0)); fill = pos 0; total = read (get_or areas i (pos 0)) } in m ≡ measures ((from + i) % g.across.count) ((from + i) / g.across.count)
drawn_at g from areas measures i lt areas_are drawn = ap metal_alone (area_read _ (areas_are i (pos 0) lt)) ∙ drawn i (pos 0) lt

-- the lines so far, and behind them the next one
pub next_line : (rows : ℕ) (g : Grid) (limits : Limits) (measures : ℕ → ℕ → Measures) (m : Measures) (from n k : ℕ) (w new : Lines) → k ≡ from + n → m ≡ measures (k % g.across.count) (k / g.across.count)
    → written w ≡ Some (lines_above rows g limits measures from n)
    → ((front : List ℕ) → written w ≡ Some front → written new ≡ Some (front ++ told_line g limits m (k % g.across.count) (k / g.across.count) (rows + k / g.across.count)))
    → written new ≡ Some (lines_above rows g limits measures from (n + 1))
next_line rows g limits measures m from n k w new place is so_far put =
    let before = lines_above rows g limits measures from n in
    put before so_far
    ∙ ap (λ (t : List ℕ). Some t) (ap (λ l. before ++ told_line g limits l (k % g.across.count) (k / g.across.count) (rows + k / g.across.count)) is
    ∙ (ap (λ i. before ++ line_above rows g limits measures i) place ∙ sym (one_more (line_above rows g limits measures) from n)))

pub lines_more : (rows : ℕ) (g : Grid) (limits : Limits) (areas : List ℤ) (measures : ℕ → ℕ → Measures) (from i : ℕ) (w new : Lines) → i < length areas → All IsArea areas → AreDrawn g from areas measures
    → written w ≡ Some (lines_above rows g limits measures from i)
    → ((front : List ℕ) → written w ≡ Some front → written new ≡ Some (front ++ told_line g limits (record { drawn = read (get_or areas i (pos 0)); fill = pos 0; total = read (get_or areas i (pos 0)) }) ((from + i) % g.across.count) ((from + i) / g.across.count) (rows + (from + i) / g.across.count)))
    → written new ≡ Some (lines_above rows g limits measures from (i + 1))
lines_more rows g limits areas measures from i w new lt areas_are drawn so_far put = next_line rows g limits measures _ from i (from + i) w new refl (drawn_at g from areas measures i lt areas_are drawn) so_far put

-- what a writer has written is the text
pub text_is : (f : ℕ → List ℕ) (text so_far : List ℕ) (k n : ℕ) → n ≤ k → k ≤ n → text ≡ so_far → Some so_far ≡ Some (f k) → text ≡ f n
text_is f text so_far k n above below is lines =
    let same : so_far ≡ f k = cc in
    is ∙ (same ∙ ap f (omega (arith, above, below)))

-- both ends of what counts of a span are in order, and no further apart than the span's
kept_in_order : (low high x n : ℤ) → pos 1 ≤ℤ n → int_min (int_max x low) high ≤ℤ int_min (int_max (x +ℤ n) low) high
kept_in_order low high x n some = grind (arith, ints)

kept_as_long : (low high x n : ℤ) → low <ℤ high → pos 1 ≤ℤ n → n ≤ℤ pos 1048576 → span_len (int_min (int_max x low) high) (int_min (int_max (x +ℤ n) low) high) ≤ 1048576
kept_as_long low high x n room some few = grind (arith, ints)

pub part_in_order : (p : Parts) (a : ℕ) → IsLength p.axis.length → part_begin p a ≤ℤ part_end p a
part_in_order p a is = kept_in_order p.low p.high (axis_begin p.axis a) p.axis.length is.least

pub part_as_long : (p : Parts) (a : ℕ) → p.low <ℤ p.high → IsLength p.axis.length → span_len (part_begin p a) (part_end p a) ≤ 1048576
part_as_long p a room is = kept_as_long p.low p.high (axis_begin p.axis a) p.axis.length room is.least is.most

-- a set with no square more has the same area, and no set none
area_or_nothing : (p : ℤ → ℤ → Bool) (g : Grid) (a b : ℕ) → IsGrid g → window_area (λ x y. p x y || nothing x y) g a b ≡ window_area p g a b
area_or_nothing p g a b grid = same_area (λ x y. p x y || nothing x y) p (part_begin (parts_across g) a) (part_begin (parts_up g) b) (part_end (parts_across g) a) (part_end (parts_up g) b)
    (part_in_order (parts_across g) a grid.across.length_is) (part_in_order (parts_up g) b grid.up.length_is) (λ x y. or_false (p x y))
  where
    or_false : (t : Bool) → t || false ≡ t
    or_false true = refl
    or_false false = refl

area_of_nothing : (g : Grid) (a b : ℕ) → IsGrid g → window_area nothing g a b ≡ 0
area_of_nothing g a b grid = no_area (part_begin (parts_across g) a) (part_begin (parts_up g) b) (part_end (parts_across g) a) (part_end (parts_up g) b)
    (part_in_order (parts_across g) a grid.across.length_is) (part_in_order (parts_up g) b grid.up.length_is)

-- what the code reads back is the number itself
pub read_at : (z t : ℤ) → FitsSigned w64 z → z ≡ t → read z ≡ t
read_at z t fits is = read_is z fits ∙ is

-- the areas of a set of metal
pub sums_drawn : (p : ℤ → ℤ → Bool) (g : Grid) (areas : List ℤ) (from n : ℕ) → IsGrid g → areas ≡ areas_from p g from n → AreDrawn g from areas (measures_of p nothing g)
sums_drawn p g areas from n grid is i d lt =
    let count : length areas ≡ n = ap length is ∙ length-map-range_with_len (area_at p g) from n in
    let i_in : i < n = rw count at lt in
    let a = (from + i) % g.across.count in
    let b = (from + i) / g.across.count in
    alone (get_or areas i d) (pos (window_area p g a b)) (pos (window_area nothing g a b)) (pos (window_area (λ x y. p x y || nothing x y) g a b))
    (ap (λ xs. get_or xs i d) is ∙ get_or-map-range_with_len (area_at p g) from n i (from + i) d i_in refl) (ap pos (sym (area_of_nothing g a b grid))) (ap pos (sym (area_or_nothing p g a b grid)))
  where
    alone : (t e f u : ℤ) → t ≡ e → pos 0 ≡ f → e ≡ u → let m : Measures = record { drawn = e; fill = f; total = u } in metal_alone t ≡ m
    alone t e f u x y z = let w = x ∙ z in cc

-- where no row more is told, the lines are the windows' own
pub none_above : (g : Grid) (limits : Limits) (measures : ℕ → ℕ → Measures) (from n : ℕ) → lines_above 0 g limits measures from n ≡ lines_from g limits measures from n
none_above g limits measures from n = same (line_above 0 g limits measures) (line_at g limits measures) (range_with_len from n) (λ k. ap (told_line g limits (measures (k % g.across.count) (k / g.across.count)) (k % g.across.count) (k / g.across.count)) (none (k / g.across.count)))
  where
    none : (b : ℕ) → 0 + b ≡ b
    none b = omega arith

    same : (f h : ℕ → List ℕ) (ks : List ℕ) → ((k : ℕ) → f k ≡ h k) → flat_map f ks ≡ flat_map h ks
    same f h [] each = refl
    same f h (k ∷ ks) each = rw (each k, same f h ks each) refl

-- the lines of all parts, one after another, are those of all windows
pub parts_joined : (g : Grid) (limits : Limits) (measures : ℕ → ℕ → Measures) (size n : ℕ) (texts : List (Vec ℕ)) → 0 < size → length texts ≡ div_ceil n size
    → ((k : ℕ) (d : Vec ℕ) → k < div_ceil n size → (get_or texts k d).items ≡ lines_above 0 g limits measures (k * size) (min size (n - k * size)))
    → n ≡ g.across.count * g.up.count → flat_map vec_items texts ≡ windows_text g limits measures
parts_joined g limits measures size n texts some count each all =
    ranges_joined (lines_above 0 g limits measures) size n texts (λ a. refl) (lines_split (line_above 0 g limits measures)) some count each ∙ (none_above g limits measures 0 n ∙ ap (first_lines g limits measures) all)
