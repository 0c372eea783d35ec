-- Areas up to a coordinate amid two cuts, between which the set is uniform: they grow by the same number at each unit.
use Rattle.std.proofs.Common.{◌≡◌, ℕ, zero, suc, ◌+◌, ◌*◌, ◌/◌, ◌^◌, ◌≤◌, ◌<◌, ℤ, pos, ◌+ℤ◌, ◌-ℤ◌, ◌≤ℤ◌, ◌<ℤ◌, List, Bool, cond, length, get_or, arith, ap, ◌∙◌, sym, w64, to_z, mul_comm}
use Rattle.std.specs.Prelude.{unsigned_abs}
use Rattle.std.proofs.lemmas.Int.{ints, clamps, to_z_pos}
use Rattle.fill_base.specs.Coordinates.{lowest, highest}
use Rattle.fill_base.specs.Counts.{sum_from, span_len, sum_between, count_between}
use Rattle.fill_base.specs.Squares.{area_between}
use Rattle.fill_base.proofs.Counting.{sum_from_same, sum_between_const, count_between_const}
use Rattle.std.proofs.lemmas.List.{get_or_default}
use Rattle.std.proofs.Math.Nat.{mul-div_cancel_left, mul-le-mul}
use Rattle.fill_base.proofs.Signed.{read, read_is, pos_fits, coordinate_fits, le_trans, lt_le, product_small, side_short}
use Rattle.fill_base.proofs.Covering.{area_split_across, area_split_up, area_few}
use Rattle.fill_area.proofs.Begun.{by_lt}
use Rattle.fill_cells.specs.Mesh.{AreCuts}
use Rattle.fill_cells.proofs.Gaps.{cut_le}
use Rattle.fill_measure.proofs.SumsAbove.{count_read}
use Rattle.fill_measure.specs.declared.sides.Side.{Side}
use Rattle.fill_measure.specs.steps.Sides.{IsSide, coordinate_of}
use Rattle.fill_measure.specs.steps.Uniform.{IsUniform, turned}

sum_scaled : (f : ℤ → ℕ) (k : ℕ) (lo : ℤ) (n : ℕ) → sum_from (λ x. k * f x) lo n ≡ k * sum_from f lo n
unfolding sum_from
sum_scaled f k lo zero = omega arith
sum_scaled f k lo (suc n) = let h = sum_scaled f k lo n in omega (arith, h)

-- from a column on, as long as the columns are the same, the area grows by the squares of the column
across_grows : (p : ℤ → ℤ → Bool) (left bottom top x z : ℤ) → left ≤ℤ x → x ≤ℤ z → ((x' y : ℤ) → x ≤ℤ x' → x' <ℤ z → p x' y ≡ p x y)
    → area_between p left bottom z top ≡ area_between p left bottom x top + span_len x z * count_between (λ y. p x y) bottom top
across_grows p left bottom top x z low high same =
    area_split_across p left x z bottom top low high ∙ ap (λ n. area_between p left bottom x top + n) (each ∙ sum_scaled (λ y. cond (p x y) 1 0) (span_len x z) bottom (span_len bottom top))
  where
    each : area_between p x bottom z top ≡ sum_between (λ y. span_len x z * cond (p x y) 1 0) bottom top
    each = sum_from_same (λ y. count_between (λ x. p x y) x z) (λ y. span_len x z * cond (p x y) 1 0) bottom (span_len bottom top)
        (λ k lt. count_between_const (λ x'. p x' (bottom +ℤ pos k)) x z (p x (bottom +ℤ pos k)) high (λ x' from below. same x' (bottom +ℤ pos k) from below))

-- so from a row on
up_grows : (p : ℤ → ℤ → Bool) (left right bottom y z : ℤ) → bottom ≤ℤ y → y ≤ℤ z → ((y' x : ℤ) → y ≤ℤ y' → y' <ℤ z → p x y' ≡ p x y)
    → area_between p left bottom right z ≡ area_between p left bottom right y + span_len y z * count_between (λ x. p x y) left right
up_grows p left right bottom y z low high same =
    area_split_up p left right bottom y z low high ∙ ap (λ n. area_between p left bottom right y + n) (sum_between_const (λ y'. count_between (λ x. p x y') left right) y z (count_between (λ x. p x y) left right) high
    (λ y' from below. sum_from_same (λ x. cond (p x y') 1 0) (λ x. cond (p x y) 1 0) left (span_len left right) (λ k lt. ap (λ b. cond b 1 0) (same y' (left +ℤ pos k) from below))))

-- what an area is at most
pub area_small : (p : ℤ → ℤ → Bool) (left bottom right top : ℤ) → lowest ≤ℤ left → left ≤ℤ right → right ≤ℤ highest → lowest ≤ℤ bottom → bottom ≤ℤ top → top ≤ℤ highest → area_between p left bottom right top ≤ 2 ^ 62
area_small p left bottom right top a b c d e f =
    let le = area_few p left bottom right top in
    let small = product_small _ _ (side_short bottom top d e f) (side_short left right a b c) in
    omega (arith, le, small)

-- where a side stands
pub side_low : (cuts : List ℤ) (side : Side) (d : ℤ) → AreCuts cuts → IsSide cuts side → get_or cuts 0 d ≤ℤ coordinate_of cuts side d
side_low cuts side d are is = further _ _ side.past (cut_le cuts 0 side.cut d are (omega arith) is.within)
  where
    further : (a b : ℤ) (n : ℕ) → a ≤ℤ b → a ≤ℤ (b +ℤ pos n)
    further a b n le = omega (arith, ints, clamps)

pub side_high : (cuts : List ℤ) (side : Side) (d : ℤ) → AreCuts cuts → IsSide cuts side → coordinate_of cuts side d ≤ℤ highest
side_high cuts side d are is = by_lt 0 side.past
    (λ some. le_trans _ _ _ (lt_le _ _ (is.amid some d)) (are.coordinates (side.cut + 1) d (is.next some)).most)
    (λ none. at (get_or cuts side.cut d) side.past (omega (arith, none)) (are.coordinates side.cut d is.within).most)
  where
    at : (b : ℤ) (n : ℕ) → n ≡ 0 → b ≤ℤ highest → (b +ℤ pos n) ≤ℤ highest
    at b n none le = omega (arith, ints, clamps)

-- a side at a cut
pub at_cut : (cuts : List ℤ) (side : Side) (d : ℤ) → side.past ≡ 0 → coordinate_of cuts side d ≡ get_or cuts side.cut d
at_cut cuts side d none = at (get_or cuts side.cut d) side.past none
  where
    at : (b : ℤ) (n : ℕ) → n ≡ 0 → b +ℤ pos n ≡ b
    at b n none = omega (arith, ints, clamps)

-- how far the cut and the coordinate past it lie apart, and the cut and the next one
span_past : (b : ℤ) (n : ℕ) → span_len b (b +ℤ pos n) ≡ n
span_past b n = omega (arith, ints, clamps)

lt_le_lt : (a b c : ℤ) → a <ℤ b → b ≤ℤ c → a <ℤ c
lt_le_lt a b c h k = omega (arith, ints, clamps)

further : (b : ℤ) (n : ℕ) → b ≤ℤ (b +ℤ pos n)
further b n = omega (arith, ints, clamps)

-- what a count is that grows evenly from a cut to the next one, as the code finds it
abbrev pub GrownTo : ℤ → ℤ → ℕ → ℕ → ℤ → Type 0
GrownTo count next gap past result = (n rate : ℕ) → count ≡ pos n → next ≡ pos (n + gap * rate) → result ≡ pos (n + past * rate)

pub left_grown : (p : ℤ → ℤ → Bool) (across : List ℤ) (bottom top : ℤ) (side : Side) (count next result : ℤ) (gap : ℕ) (d : ℤ) → AreCuts across → IsSide across side → 0 < side.past → IsUniform p across side.cut
    → gap ≡ span_len (get_or across side.cut d) (get_or across (side.cut + 1) d)
    → count ≡ pos (area_between p (get_or across 0 d) bottom (get_or across side.cut d) top) → next ≡ pos (area_between p (get_or across 0 d) bottom (get_or across (side.cut + 1) d) top)
    → GrownTo count next gap side.past result → result ≡ pos (area_between p (get_or across 0 d) bottom (coordinate_of across side d) top)
left_grown p across bottom top side count next result gap d are is some same gap_is count_is next_is grown =
    let x = get_or across side.cut d in
    let first = cut_le across 0 side.cut d are (omega arith) is.within in
    let rate = count_between (λ y. p x y) bottom top in
    grown _ rate count_is (next_is ∙ ap pos (across_grows p (get_or across 0 d) bottom top x (get_or across (side.cut + 1) d) first (lt_le _ _ (are.rising side.cut (side.cut + 1) d (omega arith) (is.next some))) (λ x' y from below. same x' y d from below)
    ∙ ap (λ n. area_between p (get_or across 0 d) bottom x top + n * rate) (sym gap_is)))
    ∙ ap pos (sym (across_grows p (get_or across 0 d) bottom top x (coordinate_of across side d) first (further x side.past) (λ x' y from below. same x' y d from (lt_le_lt x' _ _ below (lt_le _ _ (is.amid some d))))
    ∙ ap (λ n. area_between p (get_or across 0 d) bottom x top + n * rate) (span_past x side.past)))

pub below_grown : (p : ℤ → ℤ → Bool) (up : List ℤ) (left right : ℤ) (side : Side) (count next result : ℤ) (gap : ℕ) (d : ℤ) → AreCuts up → IsSide up side → 0 < side.past → IsUniform (turned p) up side.cut
    → gap ≡ span_len (get_or up side.cut d) (get_or up (side.cut + 1) d)
    → count ≡ pos (area_between p left (get_or up 0 d) right (get_or up side.cut d)) → next ≡ pos (area_between p left (get_or up 0 d) right (get_or up (side.cut + 1) d))
    → GrownTo count next gap side.past result → result ≡ pos (area_between p left (get_or up 0 d) right (coordinate_of up side d))
below_grown p up left right side count next result gap d are is some same gap_is count_is next_is grown =
    let y = get_or up side.cut d in
    let first = cut_le up 0 side.cut d are (omega arith) is.within in
    let rate = count_between (λ x. p x y) left right in
    grown _ rate count_is (next_is ∙ ap pos (up_grows p left right (get_or up 0 d) y (get_or up (side.cut + 1) d) first (lt_le _ _ (are.rising side.cut (side.cut + 1) d (omega arith) (is.next some))) (λ y' x from below. same y' x d from below)
    ∙ ap (λ n. area_between p left (get_or up 0 d) right y + n * rate) (sym gap_is)))
    ∙ ap pos (sym (up_grows p left right (get_or up 0 d) y (coordinate_of up side d) first (further y side.past) (λ y' x from below. same y' x d from (lt_le_lt y' _ _ below (lt_le _ _ (is.amid some d))))
    ∙ ap (λ n. area_between p left (get_or up 0 d) right y + n * rate) (span_past y side.past)))

-- what lies left of a cut is no more than what lies left of the next one, and so what lies below
pub left_rises : (p : ℤ → ℤ → Bool) (across : List ℤ) (bottom top : ℤ) (i : ℕ) (d : ℤ) → AreCuts across → i + 1 < length across
    → area_between p (get_or across 0 d) bottom (get_or across i d) top ≤ area_between p (get_or across 0 d) bottom (get_or across (i + 1) d) top
left_rises p across bottom top i d are lt =
    let whole = area_split_across p (get_or across 0 d) (get_or across i d) (get_or across (i + 1) d) bottom top (cut_le across 0 i d are (omega arith) (omega (arith, lt))) (cut_le across i (i + 1) d are (omega arith) lt) in
    omega (arith, whole)

pub below_rises : (p : ℤ → ℤ → Bool) (up : List ℤ) (left right : ℤ) (j : ℕ) (d : ℤ) → AreCuts up → j + 1 < length up
    → area_between p left (get_or up 0 d) right (get_or up j d) ≤ area_between p left (get_or up 0 d) right (get_or up (j + 1) d)
below_rises p up left right j d are lt =
    let whole = area_split_up p left right (get_or up 0 d) (get_or up j d) (get_or up (j + 1) d) (cut_le up 0 j d are (omega arith) (omega (arith, lt))) (cut_le up j (j + 1) d are (omega arith) lt) in
    omega (arith, whole)

-- the sum of the count and as many times the rate as the coordinate is past its cut
pub grown_is : (count next : ℤ) (gap past diff n rate : ℕ) → past < gap → next ≤ℤ pos (2 ^ 62) → diff ≡ unsigned_abs (read next -ℤ read count) → count ≡ pos n → next ≡ pos (n + gap * rate)
    → read (read count +ℤ to_z w64 (diff / gap * past)) ≡ pos (n + past * rate)
grown_is count next gap past diff n rate amid most diff_is count_is next_is =
    let small : n + gap * rate ≤ 2 ^ 62 = pos_le _ (rw next_is at most) in
    let part : past * rate ≤ gap * rate = mul-le-mul (omega (arith, amid)) (omega arith) in
    let low : read count ≡ pos n = count_read count n count_is (omega (arith, small)) in
    let high : read next ≡ pos (n + gap * rate) = count_read next _ next_is small in
    let apart : diff ≡ gap * rate = diff_is ∙ rw (low, high) (difference n (gap * rate)) in
    let each : diff / gap ≡ rate = ap (λ m. m / gap) apart ∙ mul-div_cancel_left rate (omega (arith, amid)) in
    let times : diff / gap * past ≡ past * rate = ap (λ m. m * past) each ∙ mul_comm rate past in
    let move : to_z w64 (diff / gap * past) ≡ pos (past * rate) = ap (to_z w64) times ∙ to_z_pos w64 (past * rate) (fits (past * rate) (omega (arith, small, part))) in
    rw (low, move) (read_is (pos (n + past * rate)) (pos_fits (n + past * rate) (omega (arith, small, part))))
  where
    pos_le : (m : ℕ) → pos m ≤ℤ pos (2 ^ 62) → m ≤ 2 ^ 62
    pos_le m le = omega (arith, ints, clamps)

    difference : (n m : ℕ) → unsigned_abs (pos (n + m) -ℤ pos n) ≡ m
    difference n m = omega (arith, ints, clamps)

    fits : (m : ℕ) → m ≤ 2 ^ 62 → m < 2 ^ 63
    fits m small = omega (arith, small)

-- how far a cut and the next one lie apart, as the code finds it
pub gap_is : (cuts : List ℤ) (i gap : ℕ) (x y d : ℤ) → AreCuts cuts → i + 1 < length cuts → x ≡ get_or cuts (i + 1) x → y ≡ get_or cuts i y → gap ≡ unsigned_abs (read x -ℤ read y)
    → gap ≡ span_len (get_or cuts i d) (get_or cuts (i + 1) d)
gap_is cuts i gap x y d are lt x_is y_is is =
    is ∙ (rw (at x (i + 1) x_is lt, at y i y_is (omega (arith, lt))) (sym_length _ _ (lt_le _ _ (are.rising i (i + 1) d (omega arith) lt))))
  where
    at : (z : ℤ) (k : ℕ) → z ≡ get_or cuts k z → k < length cuts → read z ≡ get_or cuts k d
    at z k z_is k_in = ap read (z_is ∙ get_or_default cuts k z d k_in) ∙ (let is = are.coordinates k d k_in in read_is _ (coordinate_fits _ is.least is.most))

    sym_length : (b c : ℤ) → b ≤ℤ c → unsigned_abs (c -ℤ b) ≡ span_len b c
    sym_length b c le = omega (arith, ints, clamps)

-- counts, as the code reads them
pub some_read : (z : ℤ) (n : ℕ) → z ≡ pos n → n ≤ 2 ^ 62 → pos 0 ≤ℤ read z
some_read z n is small = rw (count_read z n is small) (omega (arith, ints, clamps))

pub most_read : (z : ℤ) (n : ℕ) → z ≡ pos n → n ≤ 2 ^ 62 → read z ≤ℤ pos (2 ^ 62)
most_read z n is small = rw (count_read z n is small) (below n small)
  where
    below : (n : ℕ) → n ≤ 2 ^ 62 → pos n ≤ℤ pos (2 ^ 62)
    below n le = omega (arith, ints, clamps)

pub rises_read : (z w : ℤ) (m n : ℕ) → z ≡ pos m → w ≡ pos n → m ≤ n → n ≤ 2 ^ 62 → read z ≤ℤ read w
rises_read z w m n z_is w_is le small = rw (count_read z m z_is (omega (arith, le, small)), count_read w n w_is small) (above m n le)
  where
    above : (m n : ℕ) → m ≤ n → pos m ≤ℤ pos n
    above m n le = omega (arith, ints, clamps)

-- what lies left of a side and below a cut is little, and so what lies below another side
pub left_small : (p : ℤ → ℤ → Bool) (across up : List ℤ) (column : Side) (j : ℕ) (d : ℤ) → AreCuts across → AreCuts up → IsSide across column → j < length up
    → area_between p (get_or across 0 d) (get_or up 0 d) (coordinate_of across column d) (get_or up j d) ≤ 2 ^ 62
left_small p across up column j d x_are y_are is j_in =
    area_small p _ _ _ _ (x_are.coordinates 0 d (omega (arith, x_are.some))).least (side_low across column d x_are is) (side_high across column d x_are is)
    (y_are.coordinates 0 d (omega (arith, y_are.some))).least (cut_le up 0 j d y_are (omega arith) j_in) (y_are.coordinates j d j_in).most

pub below_small : (p : ℤ → ℤ → Bool) (across up : List ℤ) (column row : Side) (d : ℤ) → AreCuts across → AreCuts up → IsSide across column → IsSide up row
    → area_between p (get_or across 0 d) (get_or up 0 d) (coordinate_of across column d) (coordinate_of up row d) ≤ 2 ^ 62
below_small p across up column row d x_are y_are is row_is =
    area_small p _ _ _ _ (x_are.coordinates 0 d (omega (arith, x_are.some))).least (side_low across column d x_are is) (side_high across column d x_are is)
    (y_are.coordinates 0 d (omega (arith, y_are.some))).least (side_low up row d y_are row_is) (side_high up row d y_are row_is)
