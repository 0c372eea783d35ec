-- The sweep over two lists of bands: what it has written so far, and each step.
use Rattle.std.proofs.Common.{◌≡◌, ℕ, suc, ◌+◌, ◌≤◌, ◌<◌, ℤ, pos, ◌+ℤ◌, ◌≤ℤ◌, ◌<ℤ◌, List, [], ◌∷◌, ◌++◌, length, take, get_or, refl, arith, ap, ◌∙◌, sym, false, inl, inr}
use Rattle.std.specs.Int.{int_min}
use Rattle.std.proofs.lemmas.Int.{ints, clamps, by_lt_z}
use Rattle.std.proofs.lemmas.Bool.{cases_lt}
use Rattle.std.proofs.lemmas.List.{take_more, take_all}
use Rattle.fill_base.proofs.Signed.{lt_le, le_trans}
use Rattle.fill_spans.specs.declared.operation.Operation.{Operation}
use Rattle.fill_spans.specs.Spans.{inside, floor, ceiling, IsCanonical}
use Rattle.fill_spans.specs.Operations.{applied}
use Rattle.fill_spans.specs.Sweep.{Passed}
use Rattle.fill_spans.proofs.Merging.{nothing_from_nothing}
use Rattle.fill_spans.proofs.Canonical.{equal_sets}
use Rattle.fill_bands.specs.Bands.{Band, row_from, holds, last_row, next_bottom, AreBands, IsBanded}
use Rattle.fill_bands.specs.steps.Merging.{IsRowOf, RowPut}
use Rattle.fill_bands.proofs.Stack.{bands_raise, bands_push, bands_take, bottom_next, bottom_range, bottom_past, bottom_at, row_past, row_push_below, last_row_push, last_canonical, last_taken}

-- the empty row
pub nothing_canonical : IsCanonical []
nothing_canonical = record { rising = omega (arith, ints); even = refl }

-- the nearest bottom of either list that is still to come
abbrev pub front : List Band → List Band → ℕ → ℕ → ℤ
front a b i j = int_min (next_bottom a i) (next_bottom b j)

pub record Merged (op : Operation) (a b : List Band) (i j : ℕ) (out : List Band) : Type 0 where
  pub a_in : i ≤ length a
  pub b_in : j ≤ length b
  pub same : (x y : ℤ) → holds out x y ≡ applied op (holds (take i a) x y) (holds (take j b) x y)
  pub out_below : AreBands floor [] out (front a b i j)
  pub a_below : AreBands floor [] (take i a) (front a b i j)
  pub b_below : AreBands floor [] (take j b) (front a b i j)

-- at the bottom `p` a list goes from `old` to `new`: below, nothing changes; from `p` on, its last row counts
pub record Grows (p : ℤ) (old new : List Band) : Type 0 where
  pub below : (y : ℤ) → y <ℤ p → row_from [] new y ≡ row_from [] old y
  pub past : (y : ℤ) → p ≤ℤ y → row_from [] new y ≡ last_row [] new
  pub reach : (q : ℤ) → p <ℤ q → AreBands floor [] new q

pub grows_same : (p : ℤ) (bs : List Band) → AreBands floor [] bs p → Grows p bs bs
grows_same p bs h = record {
  below = λ y lt. refl;
  past = λ y le. row_past floor p y [] bs h (omega (arith, ints));
  reach = λ q lt. bands_raise floor p q [] bs h (lt_le p q lt);
}

pub grows_push : (p : ℤ) (row : List ℤ) (bs : List Band) → AreBands floor [] bs p → IsCanonical row → (last_row [] bs ≡ row → ⊥) → Grows p bs (bs ++ (p, row) ∷ [])
grows_push p row bs h canonical other = record {
  below = λ y lt. row_push_below p y [] row bs lt;
  past = λ y le. row_past floor (y +ℤ pos 1) y [] (bs ++ (p, row) ∷ []) (bands_push floor p (y +ℤ pos 1) [] row bs h canonical other (omega (arith, ints))) (omega (arith, ints));
  reach = λ q lt. bands_push floor p q [] row bs h canonical other lt;
}

-- a bottom at which the sweep stands below the ceiling is one of the list
pub bottom_inside : (bs : List Band) (k : ℕ) (p : ℤ) → p <ℤ ceiling → next_bottom bs k ≡ p → k < length bs
bottom_inside bs k p high is = elim (cases_lt k (length bs)) [
  | inl lt ↦ lt
  | inr past ↦ absurd (lt_not_same p ceiling high (sym is ∙ bottom_past ceiling bs k past))
]
  where
    lt_not_same : (a b : ℤ) → a <ℤ b → a ≡ b → ⊥
    lt_not_same a b lt e = omega (arith, ints)

pub passed_in : (bs : List Band) (k after : ℕ) (p : ℤ) → k ≤ length bs → p <ℤ ceiling → Passed k (next_bottom bs k) p after → after ≤ length bs
passed_in bs k after p within high (inl h) = let lt : k < length bs = bottom_inside bs k p high h.0 in let e : after ≡ k + 1 = h.1 in omega arith
passed_in bs k after p within high (inr h) = let e : after ≡ k = h.1 in omega arith

-- the band at `k` and those before it
band_at : (bs : List Band) (k : ℕ) (z : Band) → k < length bs → take (k + 1) bs ≡ take k bs ++ (next_bottom bs k, last_row [] (take (k + 1) bs)) ∷ []
band_at bs k z lt =
    let e : k + 1 ≡ suc k = omega arith in
    take_more bs k z lt ∙ ap (λ b. take k bs ++ b ∷ []) (pair_is (get_or bs k z) (next_bottom bs k) (last_row [] (take (k + 1) bs)) (bottom_at ceiling bs k z lt) (rw e (last_taken [] bs k z lt)))
  where
    pair_is : (b : Band) (p : ℤ) (row : List ℤ) → p ≡ b.0 → row ≡ b.1 → b ≡ (p, row)
    pair_is (q, r) p row e f = cc

-- the list read so far, as the sweep passes `p`
pub grows_read : (bs : List Band) (k after : ℕ) (p : ℤ) → IsBanded bs → k ≤ length bs → AreBands floor [] (take k bs) p
    → p <ℤ ceiling → Passed k (next_bottom bs k) p after → Grows p (take k bs) (take after bs)
grows_read bs k after p region within below high (inl h) =
    let inner : k < length bs = bottom_inside bs k p high h.0 in
    let row = last_row [] (take (k + 1) bs) in
    let e : take after bs ≡ take k bs ++ (p, row) ∷ [] = rw h.1 (band_at bs k (p, []) inner ∙ ap (λ z. take k bs ++ (z, row) ∷ []) h.0) in
    let whole : AreBands floor [] (take (k + 1) bs) (next_bottom bs (k + 1)) = bands_take floor ceiling [] bs (k + 1) region.bands in
    let parts = last_of floor (next_bottom bs (k + 1)) (next_bottom bs k) [] row (take k bs) (rw (band_at bs k (p, []) inner) at whole) in
    rw e (grows_push p row (take k bs) below parts.0 parts.1)
  where
    last_of : (lo hi p : ℤ) (d row : List ℤ) (bs : List Band) → AreBands lo d (bs ++ (p, row) ∷ []) hi → IsCanonical row × (last_row d bs ≡ row → ⊥)
    last_of lo hi p d row [] h = (h.1.0, λ e. h.1.1.0 (sym e))
    last_of lo hi p d row (b ∷ bs) h = last_of b.0 hi p b.1 row bs h.1.1.1
grows_read bs k after p region within below high (inr h) = rw h.1 (grows_same p (take k bs) below)

-- the row of a band is canonical, and not that of the band before
pub band_differs : (bs : List Band) (k : ℕ) → IsBanded bs → k < length bs → IsCanonical (last_row [] (take (k + 1) bs)) × (last_row [] (take k bs) ≡ last_row [] (take (k + 1) bs) → ⊥)
band_differs bs k region inner =
    let whole : AreBands floor [] (take (k + 1) bs) (next_bottom bs (k + 1)) = bands_take floor ceiling [] bs (k + 1) region.bands in
    last_of floor (next_bottom bs (k + 1)) (next_bottom bs k) [] (last_row [] (take (k + 1) bs)) (take k bs) (rw (band_at bs k (floor, []) inner) at whole)
  where
    last_of : (lo hi p : ℤ) (d row : List ℤ) (bs : List Band) → AreBands lo d (bs ++ (p, row) ∷ []) hi → IsCanonical row × (last_row d bs ≡ row → ⊥)
    last_of lo hi p d row [] h = (h.1.0, λ e. h.1.1.0 (sym e))
    last_of lo hi p d row (b ∷ bs) h = last_of b.0 hi p b.1 row bs h.1.1.1

-- the next bottom of a list that the sweep has passed is further on
pub further : (bs : List Band) (k after : ℕ) (p : ℤ) → IsBanded bs → p ≤ℤ next_bottom bs k → p <ℤ ceiling
    → Passed k (next_bottom bs k) p after → p <ℤ next_bottom bs after
further bs k after p region le high (inl h) =
    rw h.1 (let lt : next_bottom bs k <ℤ next_bottom bs (k + 1) = bottom_next floor ceiling [] bs k (bottom_inside bs k p high h.0) region.bands in
    let e : next_bottom bs k ≡ p = h.0 in rw e at lt)
further bs k after p region le high (inr h) = rw h.1 (strictly p (next_bottom bs k) le h.0)
  where
    strictly : (a b : ℤ) → a ≤ℤ b → (b ≡ a → ⊥) → a <ℤ b
    strictly a b le ne = by_lt_z a b (λ lt. lt) (λ ge. absurd (ne (omega (arith, ints))))

-- what is written so far, as the sweep passes `p`
pub grows_written : (out new : List Band) (p : ℤ) (row : List ℤ) → IsCanonical row → AreBands floor [] out p → RowPut p row out new → Grows p out new
grows_written out new p row canonical below (inl h) = rw h.1 (grows_same p out below)
grows_written out new p row canonical below (inr h) = rw h.1 (grows_push p row out below canonical h.0)

pub last_is : (out new : List Band) (p : ℤ) (row : List ℤ) → RowPut p row out new → last_row [] new ≡ row
last_is out new p row (inl h) = rw h.1 h.0
last_is out new p row (inr h) = rw h.1 (last_row_push p [] row out)

min_left : (p q : ℤ) → int_min p q ≤ℤ p
min_left p q = omega (arith, ints, clamps)

min_right : (p q : ℤ) → int_min p q ≤ℤ q
min_right p q = omega (arith, ints, clamps)

below_both : (p q r : ℤ) → p <ℤ q → p <ℤ r → p <ℤ int_min q r
below_both p q r h k = omega (arith, ints, clamps)

pub merged_step : (op : Operation) (a b : List Band) (i j after_i after_j : ℕ) (out new : List Band) (at : ℤ) (row : List ℤ)
    → IsBanded a → IsBanded b → Merged op a b i j out → at ≡ front a b i j → at <ℤ ceiling
    → Passed i (next_bottom a i) at after_i → Passed j (next_bottom b j) at after_j
    → IsRowOf op (last_row [] (take after_i a)) (last_row [] (take after_j b)) row → RowPut at row out new → Merged op a b after_i after_j new
merged_step op a b i j after_i after_j out new at row ra rb m is high pa pb made put =
    let grown_a : Grows at (take i a) (take after_i a) = grows_read a i after_i at ra m.a_in (rw is m.a_below) high pa in
    let grown_b : Grows at (take j b) (take after_j b) = grows_read b j after_j at rb m.b_in (rw is m.b_below) high pb in
    let grown : Grows at out new = grows_written out new at row made.canonical (rw is m.out_below) put in
    let at_a : at ≤ℤ next_bottom a i = rw is (min_left (next_bottom a i) (next_bottom b j)) in
    let at_b : at ≤ℤ next_bottom b j = rw is (min_right (next_bottom a i) (next_bottom b j)) in
    let far : at <ℤ front a b after_i after_j = below_both at (next_bottom a after_i) (next_bottom b after_j) (further a i after_i at ra at_a high pa) (further b j after_j at rb at_b high pb) in
    record {
      a_in = passed_in a i after_i at m.a_in high pa;
      b_in = passed_in b j after_j at m.b_in high pb;
      same = λ x y. by_lt_z y at
          (λ lt. rw (grown.below y lt, grown_a.below y lt, grown_b.below y lt) (m.same x y))
          (λ le. rw (grown.past y le, grown_a.past y le, grown_b.past y le, last_is out new at row put) (made.members x));
      out_below = grown.reach _ far;
      a_below = grown_a.reach _ far;
      b_below = grown_b.reach _ far;
    }

pub merged_start : (op : Operation) (a b : List Band) → IsBanded a → IsBanded b → Merged op a b 0 0 []
merged_start op a b ra rb =
    let low : floor <ℤ front a b 0 0 = below_both floor (next_bottom a 0) (next_bottom b 0) (bottom_range floor ceiling [] a 0 ra.bands).0 (bottom_range floor ceiling [] b 0 rb.bands).0 in
    record {
      a_in = omega arith;
      b_in = omega arith;
      same = λ x y. sym (nothing_from_nothing op);
      out_below = low;
      a_below = low;
      b_below = low;
    }

-- the sweep has come to the end of both lists
pub merged_squares : (op : Operation) (a b : List Band) (i j : ℕ) (out : List Band) → Merged op a b i j out → length a ≤ i → length b ≤ j
    → (x y : ℤ) → holds out x y ≡ applied op (holds a x y) (holds b x y)
merged_squares op a b i j out m end_a end_b x y = m.same x y ∙ rw (take_all i a end_a, take_all j b end_b) refl

pub merged_region : (op : Operation) (a b : List Band) (i j : ℕ) (out : List Band) → IsBanded a → IsBanded b → Merged op a b i j out
    → length a ≤ i → length b ≤ j → IsBanded out
merged_region op a b i j out ra rb m end_a end_b =
    let most : front a b i j ≤ℤ ceiling = le_trans _ (next_bottom a i) _ (min_left (next_bottom a i) (next_bottom b j)) (bottom_range floor ceiling [] a i ra.bands).1 in
    let bands : AreBands floor [] out ceiling = bands_raise floor (front a b i j) ceiling [] out m.out_below most in
    let beyond : ceiling ≤ℤ (ceiling +ℤ pos 1) = omega (arith, ints) in
    let top : (x : ℤ) → inside (last_row [] out) x ≡ false = λ x.
    ap (λ r. inside r x) (sym (row_past floor ceiling ceiling [] out bands beyond)) ∙ (merged_squares op a b i j out m end_a end_b x ceiling
    ∙ rw (row_past floor ceiling ceiling [] a ra.bands beyond, row_past floor ceiling ceiling [] b rb.bands beyond, ra.closed, rb.closed) (nothing_from_nothing op)) in
    record {
      bands = bands;
      closed = equal_sets (last_row [] out) [] (last_canonical floor ceiling [] out nothing_canonical bands) nothing_canonical top;
    }
