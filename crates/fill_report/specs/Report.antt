-- The density report: one line a window, row by row from the lowest, in a row from the left.
use Rattle.std.specs.Prelude.{◌≡◌, ℕ, ◌+◌, ◌*◌, ◌/◌, ◌%◌, ◌<◌, length, ℤ, pos, ◌*ℤ◌, Bool, false, ◌||◌, cond, List, [], ◌∷◌, ◌++◌, map, codes, get_or, int_lt, unsigned_abs, if◌then◌else◌}
use Rattle.std.specs.List.{flat_map, range_with_len, join_with_byte}
use Rattle.std.specs.Fmt.{signed_decimal}
use Rattle.fill_area.specs.Grid.{Grid, counted_size, window_left, window_right, window_bottom, window_top}
use Rattle.fill_area.specs.Density.{window_area}
use Rattle.fill_text.specs.declared.limits.Limits.{Limits}
use Rattle.fill_report.specs.declared.line.Measures.{Measures}
use Rattle.fill_report.specs.declared.line.Density.{Density}
use Rattle.fill_report.specs.declared.line.Density.TheVariants.{Low, High, Within}

-- a share in parts of a million, rounded down; none where nothing counts
abbrev pub share_of : ℤ → ℤ → ℤ
share_of total size = if int_lt (pos 0) size then pos (unsigned_abs total * 1000000 / unsigned_abs size) else pos 0

-- below the minimum, above the maximum, or neither
abbrev pub density_of : ℤ → Limits → ℤ → Density
density_of total limits size =
    cond (int_lt (total *ℤ pos 1000000) (limits.least *ℤ size)) Low
    (cond (int_lt (limits.most *ℤ size) (total *ℤ pos 1000000)) High Within)

abbrev pub density_word : Density → List ℕ
density_word Low = codes "LOW"
density_word High = codes "HIGH"
density_word Within = codes "OK"

-- the numbers of the line of the window in column `a` and row `b`, which tells another row
abbrev pub told_numbers : Grid → ℕ → ℕ → ℕ → Measures → List ℤ
told_numbers g a b row m =
    pos a ∷ pos row ∷ window_left g a ∷ window_bottom g b ∷ window_right g a ∷ window_top g b
    ∷ m.drawn ∷ m.fill ∷ m.total ∷ share_of m.total (counted_size g a b) ∷ []

-- numbers and a word, with commas between, ended by a line feed
abbrev pub line_text : List ℤ → Density → List ℕ
line_text numbers density = join_with_byte 44 (map signed_decimal numbers ++ density_word density ∷ []) ++ 10 ∷ []

-- what a set of metal and a set of fill have in the window
abbrev pub measures_of : (ℤ → ℤ → Bool) → (ℤ → ℤ → Bool) → Grid → ℕ → ℕ → Measures
measures_of drawn fill g a b = record {
  drawn = pos (window_area drawn g a b);
  fill = pos (window_area fill g a b);
  total = pos (window_area (λ x y. drawn x y || fill x y) g a b);
}

abbrev pub told_line : Grid → Limits → Measures → ℕ → ℕ → ℕ → List ℕ
told_line g limits measures a b row = line_text (told_numbers g a b row measures) (density_of measures.total limits (counted_size g a b))

-- the line of a window tells its own row
abbrev pub window_line : Grid → Limits → Measures → ℕ → ℕ → List ℕ
window_line g limits measures a b = told_line g limits measures a b b

-- the line at place `k` of the report
abbrev pub line_at : Grid → Limits → (ℕ → ℕ → Measures) → ℕ → List ℕ
line_at g limits measures k = window_line g limits (measures (k % g.across.count) (k / g.across.count)) (k % g.across.count) (k / g.across.count)

-- the `n` lines from place `from` on
abbrev pub lines_from : Grid → Limits → (ℕ → ℕ → Measures) → ℕ → ℕ → List ℕ
lines_from g limits measures from n = flat_map (line_at g limits measures) (range_with_len from n)

-- the same where each line tells so many rows more than its own: those of some rows of a larger grid, told as there
abbrev pub line_above : ℕ → Grid → Limits → (ℕ → ℕ → Measures) → ℕ → List ℕ
line_above rows g limits measures k = told_line g limits (measures (k % g.across.count) (k / g.across.count)) (k % g.across.count) (k / g.across.count) (rows + k / g.across.count)

abbrev pub lines_above : ℕ → Grid → Limits → (ℕ → ℕ → Measures) → ℕ → ℕ → List ℕ
lines_above rows g limits measures from n = flat_map (line_above rows g limits measures) (range_with_len from n)

-- the first `n` lines
abbrev pub first_lines : Grid → Limits → (ℕ → ℕ → Measures) → ℕ → List ℕ
first_lines g limits measures n = lines_from g limits measures 0 n

-- the lines of all windows
abbrev pub windows_text : Grid → Limits → (ℕ → ℕ → Measures) → List ℕ
windows_text g limits measures = first_lines g limits measures (g.across.count * g.up.count)

-- an area of metal and no fill
abbrev pub metal_alone : ℤ → Measures
metal_alone drawn = record { drawn = drawn; fill = pos 0; total = drawn }

-- the measures of the windows from place `from` on are these areas of metal, and no fill
abbrev pub AreDrawn : Grid → ℕ → List ℤ → (ℕ → ℕ → Measures) → Type 0
AreDrawn g from areas measures = (i : ℕ) (d : ℤ) → i < length areas → metal_alone (get_or areas i d) ≡ measures ((from + i) % g.across.count) ((from + i) / g.across.count)

-- the report of a set of metal and a set of fill
abbrev pub report_text : (ℤ → ℤ → Bool) → (ℤ → ℤ → Bool) → Grid → Limits → List ℕ
report_text drawn fill g limits = windows_text g limits (measures_of drawn fill g)

-- no square
abbrev pub nothing : ℤ → ℤ → Bool
nothing x y = false
