-- What boxes take of a window, column by column and row by row.
use Rattle.std.proofs.Common.{◌≡◌, refl, sym, ap, ◌∙◌, ℕ, suc, ◌+◌, ◌≤◌, ◌<◌, ◌^◌, ℤ, pos, ◌+ℤ◌, ◌≤ℤ◌, ◌<ℤ◌, arith, subst, true, ◌&&◌, w64, FitsSigned}
use Rattle.std.specs.Prelude.{int_lt}
use Rattle.std.proofs.lemmas.Int.{ints, clamps}
use Rattle.fill_base.specs.Counts.{sum_from, sum_between, span_len}
use Rattle.fill_base.specs.Squares.{area_of, squares}
use Rattle.fill_base.specs.declared.rect.Rect.{Rect}
use Rattle.fill_base.proofs.Signed.{read, read_is, is_lt, lt_le, side_short, product_small, pos_fits}
use Rattle.fill_base.proofs.Covering.{area_few}
use Rattle.fill_raster.specs.Axes.{box_begin, box_end}
use Rattle.fill_raster.specs.Lattice.{Lattice, box_squares}
use Rattle.fill_job.specs.Plans.{PointSet}
use Rattle.fill_job.specs.Searches.{some_within}
use Rattle.fill_state.specs.steps.Taken.{AreApart, taken_in, taken_by_row, taken_by_rows}
use Rattle.fill_state.proofs.BoxAreas.{boxes_area, sum_swap}

-- ---- sums that grow by one term

pub sum_first : (f : ℤ → ℕ) (lo : ℤ) → sum_between f lo lo ≡ 0
unfolding sum_from
sum_first f lo = let e : span_len lo lo ≡ 0 = omega (arith, ints, clamps) in rw e refl

pub sum_next : (f : ℤ → ℕ) (lo i : ℤ) → lo ≤ℤ i → sum_between f lo (i +ℤ pos 1) ≡ sum_between f lo i + f i
unfolding sum_from
sum_next f lo i le =
    let e : span_len lo (i +ℤ pos 1) ≡ suc (span_len lo i) = longer lo i le in
    let at : lo +ℤ pos (span_len lo i) ≡ i = reached lo i le in
    rw e (ap (λ x. sum_from f lo (span_len lo i) + f x) at)
  where
    longer : (lo i : ℤ) → lo ≤ℤ i → span_len lo (i +ℤ pos 1) ≡ suc (span_len lo i)
    longer lo i le = omega (arith, ints, clamps)

    reached : (lo i : ℤ) → lo ≤ℤ i → lo +ℤ pos (span_len lo i) ≡ i
    reached lo i le = omega (arith, ints, clamps)

-- ---- no sum exceeds the window

pub few_squares : (p : PointSet) (w : Rect) → area_of p w ≤ 2 ^ 62
few_squares p w =
    let most = area_few p w.x1 w.y1 w.x2 w.y2 in
    let small = product_small (span_len w.y1 w.y2) (span_len w.x1 w.x2) (side_short w.y1 w.y2 w.bottom (lt_le _ _ w.tall) w.top) (side_short w.x1 w.x2 w.left (lt_le _ _ w.wide) w.right) in
    le_le _ _ _ most small
  where
    le_le : (a b c : ℕ) → a ≤ b → b ≤ c → a ≤ c
    le_le a b c h k = omega (arith, h, k)

pub rows_are : (r : Lattice) (fill : PointSet) (w : Rect) (left right bottom top : ℤ) → AreApart r fill
    → area_of (λ x y. some_within (λ i j. fill i j && box_squares r i j x y) left bottom right top) w ≡ taken_by_rows r fill w left right bottom top
rows_are r fill w left right bottom top apart =
    boxes_area r fill left bottom right top w.x1 w.y1 w.x2 w.y2 (lt_le _ _ w.wide) (lt_le _ _ w.tall) apart
    ∙ sum_swap (λ i j. taken_in r fill w i j) left (span_len left right) bottom (span_len bottom top)

pub rows_few : (r : Lattice) (fill : PointSet) (w : Rect) (left right bottom top : ℤ) → AreApart r fill → taken_by_rows r fill w left right bottom top ≤ 2 ^ 62
rows_few r fill w left right bottom top apart =
    subst (λ n. n ≤ 2 ^ 62) (rows_are r fill w left right bottom top apart) (few_squares (λ x y. some_within (λ i j. fill i j && box_squares r i j x y) left bottom right top) w)

pub row_few : (r : Lattice) (fill : PointSet) (w : Rect) (left right j : ℤ) → AreApart r fill → taken_by_row r fill w left right j ≤ 2 ^ 62
row_few r fill w left right j apart =
    let f = λ (j : ℤ). taken_by_row r fill w left right j in
    let one = sum_next f j j (same j) in
    let none = sum_first f j in
    less _ _ _ (rows_few r fill w left right j (j +ℤ pos 1) apart) one none
  where
    same : (j : ℤ) → j ≤ℤ j
    same j = omega (arith, ints, clamps)

    less : (a b c : ℕ) → a ≤ 2 ^ 62 → a ≡ b + c → b ≡ 0 → c ≤ 2 ^ 62
    less a b c few one none = omega (arith, few, one, none)

-- ---- one box

-- what a filled place's box takes fits
pub box_taken : (s r : Lattice) (fill : PointSet) (w b : Rect) (i j z : ℤ) → s ≡ r → fill i j ≡ true
    → b.x1 ≡ box_begin s.across i → b.y1 ≡ box_begin s.up j → b.x2 ≡ box_end s.across i → b.y2 ≡ box_end s.up j
    → z ≡ pos (area_of (squares b) w) → read z ≡ pos (taken_in r fill w i j)
box_taken s r fill w b i j z same filled left bottom right top area =
    let is : z ≡ pos (taken_in r fill w i j) = rw (sym same, sym right, sym top, sym left, sym bottom, filled) area in
    read_is z (rw area (pos_fits (area_of (squares b) w) (below _ (few_squares (squares b) w)))) ∙ is
  where
    below : (n : ℕ) → n ≤ 2 ^ 62 → n < 2 ^ 63
    below n few = omega (arith, few)

-- ---- a loop that adds term by term

pub record Added (f : ℤ → ℕ) (lo hi i area more : ℤ) : Type 0 where
  pub fits : FitsSigned w64 (area +ℤ read more)
  pub from : lo ≤ℤ read (i +ℤ pos 1)
  pub to : read (i +ℤ pos 1) ≤ℤ hi
  pub sum : read (area +ℤ read more) ≡ pos (sum_between f lo (read (i +ℤ pos 1)))

pub added : (f : ℤ → ℕ) (lo hi i area more : ℤ) → FitsSigned w64 lo → FitsSigned w64 hi → lo ≤ℤ i → int_lt i hi ≡ true → area ≡ pos (sum_between f lo i) → more ≡ pos (f i)
    → ((k : ℤ) → sum_between f lo k ≤ 2 ^ 62) → Added f lo hi i area more
added f lo hi i area more lo_fits hi_fits low test is one few =
    let lt = is_lt i hi test in
    let next : read (i +ℤ pos 1) ≡ i +ℤ pos 1 = read_is (i +ℤ pos 1) (next_fits lo hi i lo_fits hi_fits low lt) in
    let all = sum_next f lo i low in
    let term : read more ≡ pos (f i) = read_is more (rw one (pos_fits (f i) (term_small _ _ _ all (few (i +ℤ pos 1))))) ∙ one in
    let sum : area +ℤ read more ≡ pos (sum_between f lo (i +ℤ pos 1)) = rw (is, term, all) refl in
    let fits : FitsSigned w64 (area +ℤ read more) = rw sum (pos_fits _ (small _ (few (i +ℤ pos 1)))) in
    record {
      fits = fits;
      from = rw next (above lo i low);
      to = rw next (below hi i lt);
      sum = read_is (area +ℤ read more) fits ∙ rw next sum;
    }
  where
    next_fits : (a b i : ℤ) → FitsSigned w64 a → FitsSigned w64 b → a ≤ℤ i → i <ℤ b → FitsSigned w64 (i +ℤ pos 1)
    next_fits a b i fa fb low lt = omega (arith, ints, clamps)

    term_small : (a b c : ℕ) → a ≡ b + c → a ≤ 2 ^ 62 → c < 2 ^ 63
    term_small a b c e few = omega (arith, e, few)

    small : (a : ℕ) → a ≤ 2 ^ 62 → a < 2 ^ 63
    small a few = omega (arith, few)

    above : (a i : ℤ) → a ≤ℤ i → a ≤ℤ (i +ℤ pos 1)
    above a i h = omega (arith, ints, clamps)

    below : (b i : ℤ) → i <ℤ b → (i +ℤ pos 1) ≤ℤ b
    below b i h = omega (arith, ints, clamps)

pub same_le : (i : ℤ) → i ≤ℤ i
same_le i = omega (arith, ints, clamps)
