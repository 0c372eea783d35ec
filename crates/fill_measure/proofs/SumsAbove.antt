-- Areas between cuts, as sums and differences of those below and left of the crossings.
use Rattle.std.proofs.Common.{◌≡◌, ℕ, ◌+◌, ◌*◌, ◌^◌, ◌≤◌, ◌<◌, ℤ, pos, ◌+ℤ◌, ◌-ℤ◌, List, [], ◌∷◌, ◌++◌, Bool, length, get_or, replicate, refl, arith, ap, subst, ◌∙◌, sym, w64, FitsSigned}
use Rattle.std.proofs.lemmas.Int.{ints, clamps}
use Rattle.std.proofs.lemmas.List.{get_or_append_left, get_or_default, get_or-replicate, length_push, length-replicate}
use Rattle.std.proofs.lemmas.Nat.{same_from_place}
use Rattle.std.proofs.Math.Nat.{mul-le-mul}
use Rattle.std.proofs.Math.Seq.{get_or-append_seam}
use Rattle.fill_base.specs.Counts.{span_len}
use Rattle.fill_base.specs.Squares.{area_between}
use Rattle.fill_base.proofs.Signed.{read, read_is, pos_fits, side_short, product_small}
use Rattle.fill_base.proofs.Covering.{area_split_across, area_split_up, area_few}
use Rattle.fill_area.proofs.Begun.{by_lt}
use Rattle.fill_cells.specs.Mesh.{AreCuts, gaps}
use Rattle.fill_cells.proofs.Gaps.{cut_le}
use Rattle.fill_measure.specs.steps.Bands.{IsRow}
use Rattle.fill_measure.specs.steps.PrefixSums.{block_area, ArePrefixSums}

-- nothing lies between a cut and itself
no_width : (p : ℤ → ℤ → Bool) (x bottom top : ℤ) → area_between p x bottom x top ≡ 0
no_width p x bottom top = nothing _ (span_len bottom top) (span_len x x) (omega (arith, ints, clamps)) (area_few p x bottom x top)
  where
    nothing : (m n s : ℕ) → s ≡ 0 → m ≤ n * s → m ≡ 0
    nothing m n s none le = let le' : m ≤ n * 0 = subst (λ z. m ≤ n * z) none le in omega (arith, le')

no_height : (p : ℤ → ℤ → Bool) (left right y : ℤ) → area_between p left y right y ≡ 0
no_height p left right y = nothing _ (span_len y y) (span_len left right) (omega (arith, ints, clamps)) (area_few p left y right y)
  where
    nothing : (m s n : ℕ) → s ≡ 0 → m ≤ s * n → m ≡ 0
    nothing m s n none le = let le' : m ≤ 0 * n = subst (λ z. m ≤ z * n) none le in omega (arith, le')

-- the area between cuts is small
pub block_small : (p : ℤ → ℤ → Bool) (across up : List ℤ) (left bottom right top : ℕ) (d : ℤ) → AreCuts across → AreCuts up → left ≤ right → right < length across → bottom ≤ top → top < length up
    → block_area p across up left bottom right top d ≤ 2 ^ 62
block_small p across up left bottom right top d x_are y_are x_le x_in y_le y_in =
    let wide : span_len (get_or across left d) (get_or across right d) ≤ 2 ^ 31 = short across left right x_are x_le x_in in
    let tall : span_len (get_or up bottom d) (get_or up top d) ≤ 2 ^ 31 = short up bottom top y_are y_le y_in in
    let le = area_few p (get_or across left d) (get_or up bottom d) (get_or across right d) (get_or up top d) in
    let small = product_small _ _ tall wide in
    omega (arith, le, small)
  where
    short : (cuts : List ℤ) (i j : ℕ) → AreCuts cuts → i ≤ j → j < length cuts → span_len (get_or cuts i d) (get_or cuts j d) ≤ 2 ^ 31
    short cuts i j are le lt = side_short _ _ (are.coordinates i d (omega (arith, le, lt))).least (cut_le cuts i j d are le lt) (are.coordinates j d lt).most

-- a count as the code reads it, and the sum and the difference of two counts as it finds them
pub count_read : (x : ℤ) (n : ℕ) → x ≡ pos n → n ≤ 2 ^ 62 → read x ≡ pos n
count_read x n is small = ap read is ∙ read_is (pos n) (pos_fits n (omega (arith, small)))

sum_of : (x y : ℤ) (m n k : ℕ) → x ≡ pos m → y ≡ pos n → k ≡ m + n → k ≤ 2 ^ 62 → FitsSigned w64 (x +ℤ y) × (read (x +ℤ y) ≡ pos k)
sum_of x y m n k x_is y_is is small =
    let whole : x +ℤ y ≡ pos k = ap (λ z. z +ℤ y) x_is ∙ (ap (λ z. pos m +ℤ z) y_is ∙ ap pos (sym is)) in
    (rw whole (pos_fits k (omega (arith, small))), count_read (x +ℤ y) k whole small)

pub difference_of : (x y : ℤ) (m n k : ℕ) → x ≡ pos m → y ≡ pos n → m ≡ n + k → m ≤ 2 ^ 62 → FitsSigned w64 (x -ℤ y) × (read (x -ℤ y) ≡ pos k)
difference_of x y m n k x_is y_is is small =
    let whole : x -ℤ y ≡ pos k = ap (λ z. z -ℤ y) x_is ∙ (ap (λ z. pos m -ℤ z) y_is ∙ left m n k is) in
    (rw whole (pos_fits k (omega (arith, is, small))), count_read (x -ℤ y) k whole (omega (arith, is, small)))
  where
    left : (m n k : ℕ) → m ≡ n + k → pos m -ℤ pos n ≡ pos k
    left m n k e = omega (arith, ints, clamps)

-- the corner in column `i` and row `j` is in the list of all
pub prefix_sum_in : (w h i j : ℕ) → i < w → j < h → j * w + i < h * w
prefix_sum_in w h i j i_in j_in = let le : (j + 1) * w ≤ h * w = mul-le-mul (omega (arith, j_in)) (same w) in omega (arith, le, i_in)
  where
    same : (n : ℕ) → n ≤ n
    same n = omega arith

-- a corner as the code reads it
pub prefix_sum_read : (p : ℤ → ℤ → Bool) (across up prefix_sums : List ℤ) (bottom step n i j : ℕ) → AreCuts across → AreCuts up → ArePrefixSums p across up bottom step n prefix_sums
    → i < length across → j * length across + i < n → bottom + j * step < length up → (e d : ℤ) → read (get_or prefix_sums (j * length across + i) e) ≡ pos (block_area p across up 0 bottom i (bottom + j * step) d)
prefix_sum_read p across up prefix_sums bottom step n i j x_are y_are are i_in within cut_in e d =
    count_read _ _ (get_or_default prefix_sums _ e d (rw are.count within) ∙ are.each i j d i_in within)
    (block_small p across up 0 bottom i (bottom + j * step) d x_are y_are (omega arith) i_in (omega arith) cut_in)

-- what lies below a cut and what lies above it, together
pub stacked : (p : ℤ → ℤ → Bool) (across up : List ℤ) (i bottom mid top : ℕ) (x y : ℤ) → AreCuts across → AreCuts up → i < length across → bottom ≤ mid → mid ≤ top → top < length up
    → ((d : ℤ) → x ≡ pos (block_area p across up 0 bottom i mid d)) → ((d : ℤ) → y ≡ pos (block_area p across up 0 mid i top d))
    → FitsSigned w64 (x +ℤ y) × ((d : ℤ) → read (x +ℤ y) ≡ pos (block_area p across up 0 bottom i top d))
stacked p across up i bottom mid top x y x_are y_are i_in low high top_in x_is y_is = ((at x).0, λ d. (at d).1)
  where
    at : (d : ℤ) → FitsSigned w64 (x +ℤ y) × (read (x +ℤ y) ≡ pos (block_area p across up 0 bottom i top d))
    at d = sum_of _ _ _ _ _ (x_is d) (y_is d)
        (area_split_up p (get_or across 0 d) (get_or across i d) (get_or up bottom d) (get_or up mid d) (get_or up top d) (cut_le up bottom mid d y_are low (omega (arith, high, top_in))) (cut_le up mid top d y_are high top_in))
        (block_small p across up 0 bottom i top d x_are y_are (omega arith) i_in (omega (arith, low, high)) top_in)

-- one corner more
pub prefix_sums_more : (p : ℤ → ℤ → Bool) (across up : List ℤ) (bottom step : ℕ) (prefix_sums new : List ℤ) (i j : ℕ) (value : ℤ) → i < length across → ArePrefixSums p across up bottom step (j * length across + i) prefix_sums
    → new ≡ prefix_sums ++ value ∷ [] → ((d : ℤ) → value ≡ pos (block_area p across up 0 bottom i (bottom + j * step) d)) → ArePrefixSums p across up bottom step (j * length across + (i + 1)) new
prefix_sums_more p across up bottom step prefix_sums new i j value i_in are new_is value_is = rw new_is (record {
  count = length_push prefix_sums value ∙ omega (arith, are.count);
  each = λ k l d k_in lt. by_lt (l * length across + k) (j * length across + i)
      (λ below. get_or_append_left prefix_sums (value ∷ []) d (l * length across + k) (rw are.count below) ∙ are.each k l d k_in below)
      (λ here.
      let is : l * length across + k ≡ j * length across + i = omega (arith, lt, here) in
      let place = same_from_place l k j i (length across) k_in i_in is in
      ap (λ n. get_or (prefix_sums ++ value ∷ []) n d) (is ∙ sym are.count) ∙ (get_or-append_seam prefix_sums value [] d ∙ (value_is d ∙ rw (place.0, place.1) refl)));
})

-- the prefix sums of a lowest cut
pub lowest_cut : (p : ℤ → ℤ → Bool) (across up : List ℤ) (bottom step : ℕ) → ArePrefixSums p across up bottom step (1 * length across) (replicate (length across) (pos 0))
lowest_cut p across up bottom step = record {
  count = length-replicate (length across) (pos 0) ∙ omega arith;
  each = λ i j d i_in lt.
      let first : j ≡ 0 = by_lt j 1 (λ none. omega (arith, none)) (λ some. absurd (let le : 1 * length across ≤ j * length across = mul-le-mul some (same (length across)) in omega (arith, le, lt))) in
      let at : j * length across + i ≡ i = ap (λ n. n * length across + i) first ∙ omega arith in
      let cut : bottom + j * step ≡ bottom = ap (λ n. bottom + n * step) first ∙ omega arith in
      ap (λ n. get_or (replicate (length across) (pos 0)) n d) at
      ∙ (get_or-replicate (length across) i (pos 0) d i_in
      ∙ ap pos (sym (ap (λ n. block_area p across up 0 bottom i n d) cut ∙ no_height p (get_or across 0 d) (get_or across i d) (get_or up bottom d))));
}
  where
    same : (n : ℕ) → n ≤ n
    same n = omega arith

-- above row `j` of a band `i` prefix sums are added, besides that at the left cut, and what the cells so far hold
pub record AreAdded (p : ℤ → ℤ → Bool) (across up : List ℤ) (bottom j i : ℕ) (total : ℤ) (prefix_sums : List ℤ) : Type 0 where
  pub total_is : (d : ℤ) → total ≡ pos (block_area p across up 0 (bottom + j) i (bottom + j + 1) d)
  pub are : ArePrefixSums p across up bottom 1 ((j + 1) * length across + (i + 1)) prefix_sums

-- the total with one cell more
pub total_more : (p : ℤ → ℤ → Bool) (across up row : List ℤ) (i j : ℕ) (total : ℤ) → AreCuts across → AreCuts up → IsRow p across up j row → i < gaps across → j < gaps up
    → ((d : ℤ) → total ≡ pos (block_area p across up 0 j i (j + 1) d)) → (e : ℤ)
    → FitsSigned w64 (total +ℤ read (get_or row i e)) × ((d : ℤ) → read (total +ℤ read (get_or row i e)) ≡ pos (block_area p across up 0 j (i + 1) (j + 1) d))
total_more p across up row i j total x_are y_are are i_in j_in total_is e = ((at e).0, λ d. (at d).1)
  where
    small : (k : ℕ) (d : ℤ) → k ≤ i + 1 → block_area p across up k j (i + 1) (j + 1) d ≤ 2 ^ 62
    small k d le = block_small p across up k j (i + 1) (j + 1) d x_are y_are le (omega (arith, i_in)) (omega arith) (omega (arith, j_in))

    at : (d : ℤ) → FitsSigned w64 (total +ℤ read (get_or row i e)) × (read (total +ℤ read (get_or row i e)) ≡ pos (block_area p across up 0 j (i + 1) (j + 1) d))
    at d = sum_of _ _ _ _ _ (total_is d) (count_read _ _ (get_or_default row i e d (rw are.count i_in) ∙ are.each i d i_in) (small i d (omega arith)))
        (area_split_across p (get_or across 0 d) (get_or across i d) (get_or across (i + 1) d) (get_or up j d) (get_or up (j + 1) d) (cut_le across 0 i d x_are (omega arith) (omega (arith, i_in))) (cut_le across i (i + 1) d x_are (omega arith) (omega (arith, i_in))))
        (small 0 d (omega arith))

-- the corner with that total above the one below it
pub prefix_sum_above : (p : ℤ → ℤ → Bool) (across up prefix_sums : List ℤ) (bottom i j : ℕ) (below total : ℤ) → AreCuts across → AreCuts up → i < gaps across → bottom + j < gaps up
    → ArePrefixSums p across up bottom 1 ((j + 1) * length across + (i + 1)) prefix_sums → below ≡ get_or prefix_sums (j * length across + i + 1) below
    → ((d : ℤ) → total ≡ pos (block_area p across up 0 (bottom + j) (i + 1) (bottom + j + 1) d))
    → FitsSigned w64 (read below +ℤ total) × ((d : ℤ) → read (read below +ℤ total) ≡ pos (block_area p across up 0 bottom (i + 1) (bottom + j + 1) d))
prefix_sum_above p across up prefix_sums bottom i j below total x_are y_are i_in j_in are below_is total_is =
    stacked p across up (i + 1) bottom (bottom + j) (bottom + j + 1) (read below) total x_are y_are (omega (arith, i_in)) (omega arith) (omega arith) (omega (arith, j_in)) corner total_is
  where
    one : bottom + j * 1 ≡ bottom + j
    one = omega arith

    corner : (d : ℤ) → read below ≡ pos (block_area p across up 0 bottom (i + 1) (bottom + j) d)
    corner d =
        let place : j * length across + i + 1 ≡ j * length across + (i + 1) = omega arith in
        ap read (below_is ∙ ap (λ n. get_or prefix_sums n below) place)
        ∙ (prefix_sum_read p across up prefix_sums bottom 1 ((j + 1) * length across + (i + 1)) (i + 1) j x_are y_are are (omega (arith, i_in)) (omega (arith, i_in)) (omega (arith, j_in)) below d
        ∙ ap (λ n. pos (block_area p across up 0 bottom (i + 1) n d)) one)

-- the corner at the left cut
pub added_first : (p : ℤ → ℤ → Bool) (across up old new : List ℤ) (bottom j : ℕ) → AreCuts across → ArePrefixSums p across up bottom 1 ((j + 1) * length across) old → new ≡ old ++ pos 0 ∷ [] → AreAdded p across up bottom j 0 (pos 0) new
added_first p across up old new bottom j x_are are new_is = record {
  total_is = λ d. ap pos (sym (no_width p (get_or across 0 d) (get_or up (bottom + j) d) (get_or up (bottom + j + 1) d)));
  are = prefix_sums_more p across up bottom 1 old new 0 (j + 1) (pos 0) (let some : 2 ≤ length across = x_are.some in omega (arith, some)) (subst (λ n. ArePrefixSums p across up bottom 1 n old) at are) new_is
      (λ d. ap pos (sym (no_width p (get_or across 0 d) (get_or up bottom d) (get_or up (bottom + (j + 1) * 1) d))));
}
  where
    at : (j + 1) * length across ≡ (j + 1) * length across + 0
    at = omega arith

-- one corner more above the row
pub added_more : (p : ℤ → ℤ → Bool) (across up old new : List ℤ) (bottom i j : ℕ) (total value total' : ℤ) → i < gaps across → AreAdded p across up bottom j i total old → new ≡ old ++ value ∷ []
    → ((d : ℤ) → value ≡ pos (block_area p across up 0 bottom (i + 1) (bottom + j + 1) d)) → ((d : ℤ) → total' ≡ pos (block_area p across up 0 (bottom + j) (i + 1) (bottom + j + 1) d)) → AreAdded p across up bottom j (i + 1) total' new
added_more p across up old new bottom i j total value total' i_in added new_is value_is total_is = record {
  total_is = total_is;
  are = prefix_sums_more p across up bottom 1 old new (i + 1) (j + 1) value (omega (arith, i_in)) added.are new_is (λ d. value_is d ∙ ap (λ n. pos (block_area p across up 0 bottom (i + 1) n d)) one);
}
  where
    one : bottom + j + 1 ≡ bottom + (j + 1) * 1
    one = omega arith
