-- What lies beyond a rectangle round windows doesn't matter for their lines without fill.
use Rattle.std.proofs.Common.{◌≡◌, refl, ap, ℕ, ◌<◌, ◌≤◌, arith, pos, Bool, true, false, ◌&&◌, ◌||◌}
use Rattle.fill_text.specs.Rules.{Values, windows_of}
use Rattle.fill_job.specs.Plans.{IsPlan, PointSet, plan_of}
use Rattle.fill_report.specs.Report.{measures_of, nothing}
use Rattle.fill_parts.specs.Needs.{is_inside, round_windows, window_sides}
use Rattle.fill_parts.specs.PartChip.{rows_told}
use Rattle.fill_parts.specs.Smaller.{Rows}
use Rattle.fill_parts.proofs.Agreeing.{agree_at, window_same}
use Rattle.fill_parts.proofs.Lines.{same_measures, told_alike}
use Rattle.fill_parts.proofs.Sides.{windows_inside}

met_same : (p q : Bool) → q ≡ true → p && q ≡ p
met_same true q h = h
met_same false q h = refl

-- metal within the rectangle gives the lines of the windows there
pub told_framed : (values : Values) (rows : Rows) (below : ℕ) (metal : PointSet) → IsPlan (plan_of values) → rows.from ≤ rows.to → rows.to ≤ (windows_of values).up.count
    → rows_told values rows below (λ x y. metal x y && is_inside (round_windows (windows_of values) rows.from rows.to) x y) nothing ≡ rows_told values rows below metal nothing
told_framed values rows below metal is ordered within =
    let g = windows_of values in let s = round_windows g rows.from rows.to in let met : PointSet = λ x y. metal x y && is_inside s x y in
    told_alike values rows below (measures_of met nothing g) (measures_of metal nothing g) is.windows.across.count_is.least ordered within
    (λ a b column row from to.
    let same = agree_at s (window_sides g a b) met metal (λ x y h. met_same (metal x y) (is_inside s x y) h) (windows_inside g rows.from rows.to a b is.windows column from to) in
    same_measures _ _
    (ap pos (window_same met metal g a b is.windows.across.length_is is.windows.up.length_is same)) refl
    (ap pos (window_same (λ x y. met x y || nothing x y) (λ x y. metal x y || nothing x y) g a b is.windows.across.length_is is.windows.up.length_is
    (λ x y left right low high. ap (λ c. c || false) (same x y left right low high)))))

-- of no rows there is no line
pub told_none : (values : Values) (rows : Rows) (below : ℕ) (p q : PointSet) → IsPlan (plan_of values) → rows.from ≤ rows.to → rows.to ≤ (windows_of values).up.count → rows.to ≤ rows.from
    → rows_told values rows below p nothing ≡ rows_told values rows below q nothing
told_none values rows below p q is ordered within none =
    told_alike values rows below (measures_of p nothing (windows_of values)) (measures_of q nothing (windows_of values)) is.windows.across.count_is.least ordered within
    (λ a b column row from to. absurd (empty rows.from rows.to b none from to))
  where
    empty : (f t b : ℕ) → t ≤ f → f ≤ b → b < t → ⊥
    empty f t b h k l = omega (arith, h, k, l)
