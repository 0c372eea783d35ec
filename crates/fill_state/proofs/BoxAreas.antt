-- The area of boxes in a rectangle is the sum of what each takes of it.
use Rattle.std.proofs.Common.{◌≡◌, refl, sym, ap, ◌∙◌, ℕ, zero, suc, ◌+◌, ◌*◌, ◌<◌, ℤ, pos, ◌+ℤ◌, ◌≤ℤ◌, arith, Bool, true, false, cond, ◌&&◌}
use Rattle.std.proofs.lemmas.Bool.{and_parts}
use Rattle.std.proofs.lemmas.Int.{ints, clamps}
use Rattle.fill_base.specs.Counts.{is_between, sum_from, sum_between, span_len}
use Rattle.fill_base.specs.Squares.{area_between}
use Rattle.fill_base.proofs.Between.{is_between_above, is_between_below}
use Rattle.fill_base.proofs.Counting.{sum_from_add, sum_from_const, sum_from_same, sum_between_split, sum_between_const}
use Rattle.fill_base.proofs.Covering.{area_none, area_either}
use Rattle.fill_raster.specs.Lattice.{Lattice, box_squares}
use Rattle.fill_job.specs.Plans.{PointSet}
use Rattle.fill_job.specs.Searches.{some_below, some_pair, some_within}
use Rattle.fill_job.proofs.Searching.{some_below_finds}
use Rattle.fill_state.specs.steps.Taken.{AreApart}

-- ---- sets that share no square

-- sets in a row, no two of which share a square
area_some : (q : ℤ → PointSet) (lo : ℤ) (n : ℕ) (left bottom right top : ℤ) → left ≤ℤ right → bottom ≤ℤ top → ((k m x y : ℤ) → q k x y ≡ true → q m x y ≡ true → k ≡ m)
    → area_between (λ x y. some_below (λ k. q (lo +ℤ pos k) x y) n) left bottom right top ≡ sum_from (λ k. area_between (q k) left bottom right top) lo n
unfolding some_below sum_from
area_some q lo zero left bottom right top wide tall apart = area_none (λ x y. false) left bottom right top wide tall (λ x y. refl)
area_some q lo (suc n) left bottom right top wide tall apart =
    let rest = area_some q lo n left bottom right top wide tall apart in
    let either = area_either (q (lo +ℤ pos n)) (λ x y. some_below (λ k. q (lo +ℤ pos k) x y) n) left bottom right top
    (λ x y here before. let f = some_below_finds (λ k. q (lo +ℤ pos k) x y) n before in later lo f.0 n f.1 (apart (lo +ℤ pos f.0) (lo +ℤ pos n) x y f.2 here)) in
    turned _ _ _ _ either rest
  where
    later : (lo : ℤ) (k n : ℕ) → k < n → lo +ℤ pos k ≡ lo +ℤ pos n → ⊥
    later lo k n lt e = omega (arith, ints, clamps, e)

    turned : (a b c d : ℕ) → a ≡ b + c → c ≡ d → a ≡ d + b
    turned a b c d e h = omega (arith, e, h)

-- ---- double sums

sum_nothing : (lo : ℤ) (n : ℕ) → sum_from (λ x. 0) lo n ≡ 0
sum_nothing lo n = let h = sum_from_const pos_zero lo 0 n in omega (arith, h)
  where
    pos_zero : ℤ
    pos_zero = pos 0

pub sum_swap : (g : ℤ → ℤ → ℕ) (a : ℤ) (m : ℕ) (b : ℤ) (n : ℕ) → sum_from (λ i. sum_from (λ j. g i j) b n) a m ≡ sum_from (λ j. sum_from (λ i. g i j) a m) b n
unfolding sum_from
sum_swap g a zero b n = sym (sum_nothing b n)
sum_swap g a (suc m) b n =
    ap (λ k. k + sum_from (λ j. g (a +ℤ pos m) j) b n) (sum_swap g a m b n)
    ∙ sym (sum_from_add (λ j. sum_from (λ i. g i j) a m) (λ j. g (a +ℤ pos m) j) (λ j. sum_from (λ i. g i j) a m + g (a +ℤ pos m) j) b n (λ j. refl))

-- terms that are nothing but in a part
pub sum_part : (g : ℤ → ℕ) (lo hi c d : ℤ) → lo ≤ℤ c → c ≤ℤ d → d ≤ℤ hi → ((i : ℤ) → is_between c d i ≡ false → g i ≡ 0) → sum_between g lo hi ≡ sum_between g c d
sum_part g lo hi c d low ordered high none =
    let split = sum_between_split g lo c hi low (le c d hi ordered high) in
    let rest = sum_between_split g c d hi ordered high in
    let before = sum_between_const g lo c 0 low (λ x l h. none x (is_between_below c d x h)) in
    let behind = sum_between_const g d hi 0 high (λ x l h. none x (is_between_above c d x l)) in
    whole (sum_between g lo hi) (sum_between g lo c) (sum_between g c hi) (sum_between g c d) (sum_between g d hi) (span_len lo c) (span_len d hi) split rest before behind
  where
    le : (c d hi : ℤ) → c ≤ℤ d → d ≤ℤ hi → c ≤ℤ hi
    le c d hi h k = omega (arith, ints, clamps)

    whole : (a b c d e m n : ℕ) → a ≡ b + c → c ≡ d + e → b ≡ m * 0 → e ≡ n * 0 → a ≡ d
    whole a b c d e m n h k l o = omega (arith, h, k, l, o)

-- ---- boxes

-- what the box of a place takes of the rectangle, where the place is filled
abbrev pub taken : Lattice → PointSet → ℤ → ℤ → ℤ → ℤ → ℤ → ℤ → ℕ
taken r fill left bottom right top i j = cond (fill i j) (area_between (box_squares r i j) left bottom right top) 0

filled_area : (fill : Bool) (p : PointSet) (left bottom right top : ℤ) → left ≤ℤ right → bottom ≤ℤ top → area_between (λ x y. fill && p x y) left bottom right top ≡ cond fill (area_between p left bottom right top) 0
filled_area true p left bottom right top wide tall = refl
filled_area false p left bottom right top wide tall = area_none (λ x y. false) left bottom right top wide tall (λ x y. refl)

-- boxes of places between two columns and two rows
pub boxes_area : (r : Lattice) (fill : PointSet) (first_column first_row past_column past_row left bottom right top : ℤ) → left ≤ℤ right → bottom ≤ℤ top → AreApart r fill
    → area_between (λ x y. some_within (λ i j. fill i j && box_squares r i j x y) first_column first_row past_column past_row) left bottom right top
    ≡ sum_between (λ i. sum_between (λ j. taken r fill left bottom right top i j) first_row past_row) first_column past_column
unfolding some_within some_pair
boxes_area r fill c d e f left bottom right top wide tall apart =
    area_some (λ i x y. some_below (λ b. fill i (d +ℤ pos b) && box_squares r i (d +ℤ pos b) x y) (span_len d f)) c (span_len c e) left bottom right top wide tall
    (λ i k x y h g.
    let p = some_below_finds (λ b. fill i (d +ℤ pos b) && box_squares r i (d +ℤ pos b) x y) (span_len d f) h in
    let q = some_below_finds (λ b. fill k (d +ℤ pos b) && box_squares r k (d +ℤ pos b) x y) (span_len d f) g in
    let a = and_parts _ _ p.2 in let b = and_parts _ _ q.2 in
    apart.columns i (d +ℤ pos p.0) k (d +ℤ pos q.0) x y a.0 b.0 a.1 b.1)
    ∙ sum_from_same (λ i. area_between (λ x y. some_below (λ b. fill i (d +ℤ pos b) && box_squares r i (d +ℤ pos b) x y) (span_len d f)) left bottom right top)
    (λ i. sum_between (λ j. taken r fill left bottom right top i j) d f) c (span_len c e) (λ k lt. column (c +ℤ pos k))
  where
    column : (i : ℤ) → area_between (λ x y. some_below (λ b. fill i (d +ℤ pos b) && box_squares r i (d +ℤ pos b) x y) (span_len d f)) left bottom right top ≡ sum_between (λ j. taken r fill left bottom right top i j) d f
    column i =
        area_some (λ j x y. fill i j && box_squares r i j x y) d (span_len d f) left bottom right top wide tall
        (λ j l x y h g. let a = and_parts _ _ h in let b = and_parts _ _ g in apart.rows i j i l x y a.0 b.0 a.1 b.1)
        ∙ sum_from_same (λ j. area_between (λ x y. fill i j && box_squares r i j x y) left bottom right top) (λ j. taken r fill left bottom right top i j) d (span_len d f)
        (λ k lt. filled_area (fill i (d +ℤ pos k)) (box_squares r i (d +ℤ pos k)) left bottom right top wide tall)
