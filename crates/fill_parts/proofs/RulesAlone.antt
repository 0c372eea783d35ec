-- The plan of the rules of some rows alone.
use Rattle.std.proofs.Common.{◌≡◌, refl, ap, subst, ◌∙◌, ℕ, ◌+◌, ◌-◌, ◌≤◌, ◌<◌, ℤ, pos, ◌+ℤ◌, ◌*ℤ◌, ◌≤ℤ◌, ◌<ℤ◌, arith, Bool, true, false, List, map}
use Rattle.std.specs.Int.{int_max, int_min}
use Rattle.std.proofs.lemmas.Int.{ints, clamps}
use Rattle.fill_base.specs.Coordinates.{lowest, highest}
use Rattle.fill_area.specs.Axes.{axis_begin, axis_end}
use Rattle.fill_area.specs.Grid.{parts_up}
use Rattle.fill_area.specs.Parts.{kept_within, part_begin, part_end}
use Rattle.fill_area.specs.declared.axis.Axis as spans
use Rattle.fill_raster.proofs.Floors.{product_le}
use Rattle.fill_text.specs.Keys.{all_number_keys}
use Rattle.fill_text.specs.Rules.{raster_of, value_of, whole_windows, windows_of, windows_with}
use Rattle.fill_text.specs.Chips.{value_with_rows}
use Rattle.fill_text.specs.declared.keys.NumberKey.TheVariants.{FrameY1, FrameY2}
use Rattle.fill_parts.specs.Laws.{RulesAloneMakeASmallerChip}
use Rattle.fill_parts.specs.Smaller.{bands_alone, spans_alone}
use Rattle.fill_parts.specs.SmallerRules.{Cover, rows_alone, rules_alone}
use Rattle.fill_parts.proofs.BandsAlone.{IsFramed, framed_rows}
use Rattle.fill_parts.proofs.RowsAlone.{further}

-- what a frame keeps of a number between two edges, it keeps also where it is cut beyond these
kept_alike : (l h m n b t z : ℤ) → l ≤ℤ m → m <ℤ n → n ≤ℤ h → m ≤ℤ int_max l b → int_min h t ≤ℤ n → b ≤ℤ z → z ≤ℤ t → kept_within m n z ≡ kept_within l h z
kept_alike l h m n b t z low some high below above from to = omega (arith, ints, clamps)

-- the spans from one on, and that none of them passes the edges of them all
pub rises : (s : spans.Axis) (m n : ℕ) → pos 1 ≤ℤ s.step → m ≤ n → axis_begin s m ≤ℤ axis_begin s n
rises s m n step le = more s.first (pos m *ℤ s.step) (pos n *ℤ s.step) (product_le (pos m) (pos n) s.step step (as_int m n le))
  where
    as_int : (m n : ℕ) → m ≤ n → pos m ≤ℤ pos n
    as_int m n le = omega (arith, ints)

    more : (z a b : ℤ) → a ≤ℤ b → (z +ℤ a) ≤ℤ (z +ℤ b)
    more z a b le = omega (arith, ints)

pub smaller_chip : RulesAloneMakeASmallerChip
smaller_chip values rows windows is tiles grid cover = record {
  across = refl;
  up = refl;
  columns = columns values.ignores;
  rows = up values.ignores;
  left = left values.ignores;
  right = right values.ignores;
  begins = λ b lt. begins values.ignores cover b (inside b lt);
  ends = λ b lt. ends values.ignores cover b (inside b lt);
  spacing = refl;
  fill_spacing = refl;
  least = refl;
}
  where
    new : List ℤ
    new = map (value_with_rows values (rows_alone values rows windows)) all_number_keys

    columns : (i : Bool) → (windows_with new i).across ≡ (windows_with values.numbers i).across
    columns true = refl
    columns false = refl

    up : (i : Bool) → (windows_with new i).up ≡ spans_alone (windows_with values.numbers i).up windows
    up true = refl
    up false = refl

    upwards : (i : Bool) → (windows_with values.numbers i).up ≡ (whole_windows values.numbers).up
    upwards true = refl
    upwards false = refl

    left : (i : Bool) → (windows_with new i).clip.left ≡ (windows_with values.numbers i).clip.left
    left true = refl
    left false = refl

    right : (i : Bool) → (windows_with new i).clip.right ≡ (windows_with values.numbers i).clip.right
    right true = refl
    right false = refl

    axis : spans.Axis
    axis = (whole_windows values.numbers).up

    wide : pos 1 ≤ℤ axis.length
    wide = subst (λ (s : spans.Axis). pos 1 ≤ℤ s.length) (upwards values.ignores) is.windows_up.length_is.least

    step : pos 1 ≤ℤ axis.step
    step = subst (λ (s : spans.Axis). pos 1 ≤ℤ s.step) (upwards values.ignores) is.windows_up.step_is.least

    frame : IsFramed (raster_of values.numbers).up rows
    frame = framed_rows (raster_of values.numbers).up rows is.places_up tiles

    inside : (b : ℕ) → b < (windows_of (rules_alone values rows windows)).up.count → windows.from + b ≤ windows.to - 1
    inside b lt = within (subst (λ n. b < n) (ap (λ (s : spans.Axis). s.count) (up values.ignores)) lt)
      where
        within : b < windows.to - windows.from → windows.from + b ≤ windows.to - 1
        within less = omega (arith, less)

    at : (b : ℕ) → axis_begin (whole_windows new).up b ≡ axis_begin axis (windows.from + b)
    at b = further axis.first windows.from b axis.step

    at_end : (b : ℕ) → axis_end (whole_windows new).up b ≡ axis_end axis (windows.from + b)
    at_end b = ap (λ z. z +ℤ axis.length) (at b)

    from_bottom : (b : ℕ) → axis_begin axis windows.from ≤ℤ axis_begin axis (windows.from + b)
    from_bottom b = rises axis windows.from (windows.from + b) step (more windows.from b)
      where
        more : (m n : ℕ) → m ≤ m + n
        more m n = omega arith

    to_top : (b : ℕ) → windows.from + b ≤ windows.to - 1 → axis_end axis (windows.from + b) ≤ℤ axis_end axis (windows.to - 1)
    to_top b le = longer (axis_begin axis (windows.from + b)) (axis_begin axis (windows.to - 1)) axis.length (rises axis (windows.from + b) (windows.to - 1) step le)
      where
        longer : (y z l : ℤ) → y ≤ℤ z → (y +ℤ l) ≤ℤ (z +ℤ l)
        longer y z l h = omega (arith, ints)

    -- the frame keeps as much of a number between the windows' edges as the whole one
    kept : (z : ℤ) → Cover values rows windows → axis_begin axis windows.from ≤ℤ z → z ≤ℤ axis_end axis (windows.to - 1)
        → kept_within (bands_alone (raster_of values.numbers).up rows).low (bands_alone (raster_of values.numbers).up rows).high z ≡ kept_within (value_of values FrameY1) (value_of values FrameY2) z
    kept z over from to = kept_alike (value_of values FrameY1) (value_of values FrameY2) (bands_alone (raster_of values.numbers).up rows).low (bands_alone (raster_of values.numbers).up rows).high (axis_begin axis windows.from) (axis_end axis (windows.to - 1)) z
        frame.low frame.some frame.high over.below over.above from to

    begins : (i : Bool) → (i ≡ true → Cover values rows windows) → (b : ℕ) → windows.from + b ≤ windows.to - 1 → part_begin (parts_up (windows_with new i)) b ≡ part_begin (parts_up (windows_with values.numbers i)) (windows.from + b)
    begins true over b le =
        ap (kept_within (bands_alone (raster_of values.numbers).up rows).low (bands_alone (raster_of values.numbers).up rows).high) (at b)
        ∙ kept (axis_begin axis (windows.from + b)) (over refl) (from_bottom b) (before (axis_begin axis (windows.from + b)) (axis_end axis (windows.to - 1)) axis.length wide (to_top b le))
      where
        before : (z t l : ℤ) → pos 1 ≤ℤ l → (z +ℤ l) ≤ℤ t → z ≤ℤ t
        before z t l h k = omega (arith, ints)
    begins false over b le = ap (kept_within lowest highest) (at b)

    ends : (i : Bool) → (i ≡ true → Cover values rows windows) → (b : ℕ) → windows.from + b ≤ windows.to - 1 → part_end (parts_up (windows_with new i)) b ≡ part_end (parts_up (windows_with values.numbers i)) (windows.from + b)
    ends true over b le =
        ap (kept_within (bands_alone (raster_of values.numbers).up rows).low (bands_alone (raster_of values.numbers).up rows).high) (at_end b)
        ∙ kept (axis_end axis (windows.from + b)) (over refl) (behind (axis_begin axis windows.from) (axis_begin axis (windows.from + b)) axis.length wide (from_bottom b)) (to_top b le)
      where
        behind : (y z l : ℤ) → pos 1 ≤ℤ l → y ≤ℤ z → y ≤ℤ (z +ℤ l)
        behind y z l h k = omega (arith, ints)
    ends false over b le = ap (kept_within lowest highest) (at_end b)
