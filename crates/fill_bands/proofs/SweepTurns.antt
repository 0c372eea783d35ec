-- One turn of the sweep over bands, as the code's calls describe it.
use Rattle.std.proofs.Common.{◌≡◌, ℕ, zero, suc, ◌+◌, ◌-◌, ◌≤◌, ◌<◌, ℤ, pos, ◌+ℤ◌, ◌≤ℤ◌, ◌<ℤ◌, Bool, false, List, length, take, refl, ap, sym, ◌∙◌, arith, ◌⊎◌, inl, inr, w32, FitsSigned, [], ◌∷◌, ◌++◌}
use Rattle.std.specs.Int.{int_min}
use Rattle.std.proofs.lemmas.Int.{ints, clamps, by_lt_z}
use Rattle.fill_base.proofs.Signed.{read32, read32_is}
use Rattle.fill_spans.specs.declared.operation.Operation.{Operation}
use Rattle.fill_spans.specs.Spans.{inside, floor, ceiling, IsCanonical}
use Rattle.fill_spans.specs.Operations.{applied}
use Rattle.fill_spans.proofs.Canonical.{equal_sets}
use Rattle.fill_spans.specs.Sweep.{Passed}
use Rattle.fill_spans.proofs.SweepTurns.{edge_fits, passes_one}
use Rattle.fill_bands.specs.Bands.{Band, last_row, next_bottom, IsBanded}
use Rattle.fill_bands.specs.steps.Merging.{IsBeside, IsRowOf, IsTurn, RowPut}
use Rattle.fill_bands.proofs.Stack.{bottom_range, bottom_within, last_canonical, row_past}
use Rattle.fill_bands.proofs.Sweeping.{Merged, band_differs, bottom_inside, merged_step, front, nothing_canonical, passed_in}

pub bottom_read : (bs : List Band) (k : ℕ) → IsBanded bs → read32 (next_bottom bs k) ≡ next_bottom bs k
bottom_read bs k region = let in_range = bottom_range floor ceiling [] bs k region.bands in read32_is _ (edge_fits (next_bottom bs k) in_range.0 in_range.1)

-- where the sweep stands
pub record Stands (a b : List Band) (i j : ℕ) (next_a next_b at : ℤ) : Type 0 where
  pub a_is : read32 next_a ≡ next_bottom a i
  pub b_is : read32 next_b ≡ next_bottom b j
  pub at_is : read32 at ≡ front a b i j
  pub below : front a b i j <ℤ ceiling

pub stands : (a b : List Band) (i j : ℕ) (next_a next_b at : ℤ) → IsBanded a → IsBanded b → (i < length a) ⊎ (j < length b)
    → next_a ≡ next_bottom a i → next_b ≡ next_bottom b j → at ≡ int_min (read32 next_a) (read32 next_b) → Stands a b i j next_a next_b at
stands a b i j next_a next_b at ra rb more is_a is_b is_at =
    let at_front : at ≡ front a b i j = rw (is_a, is_b, bottom_read a i ra, bottom_read b j rb) at is_at in
    let range_a = bottom_range floor ceiling [] a i ra.bands in
    let range_b = bottom_range floor ceiling [] b j rb.bands in
    let fits : FitsSigned w32 (front a b i j) = min_fits (next_bottom a i) (next_bottom b j) range_a.0 range_b.0 range_a.1 in
    record {
      a_is = rw is_a (bottom_read a i ra);
      b_is = rw is_b (bottom_read b j rb);
      at_is = rw at_front (read32_is _ fits);
      below = elim more [
        | inl lt ↦ min_below_left (next_bottom a i) (next_bottom b j) (bottom_within floor ceiling [] a i lt ra.bands).1
        | inr lt ↦ min_below_right (next_bottom a i) (next_bottom b j) (bottom_within floor ceiling [] b j lt rb.bands).1
      ];
    }
  where
    min_fits : (p q : ℤ) → floor <ℤ p → floor <ℤ q → p ≤ℤ ceiling → FitsSigned w32 (int_min p q)
    min_fits p q h k l = omega (arith, ints, clamps)

    min_below_left : (p q : ℤ) → p <ℤ ceiling → int_min p q <ℤ ceiling
    min_below_left p q h = omega (arith, ints, clamps)

    min_below_right : (p q : ℤ) → q <ℤ ceiling → int_min p q <ℤ ceiling
    min_below_right p q h = omega (arith, ints, clamps)

pub turn_keeps : (op : Operation) (a b : List Band) (i j after_i after_j : ℕ) (out new : List Band) (next_a next_b at : ℤ) (row : List ℤ)
    → IsBanded a → IsBanded b → Merged op a b i j out → Stands a b i j next_a next_b at
    → Passed i (read32 next_a) (read32 at) after_i → Passed j (read32 next_b) (read32 at) after_j
    → IsRowOf op (last_row [] (take after_i a)) (last_row [] (take after_j b)) row → RowPut (read32 at) row out new → Merged op a b after_i after_j new
turn_keeps op a b i j after_i after_j out new next_a next_b at row ra rb m s pa pb made put =
    merged_step op a b i j after_i after_j out new (front a b i j) row ra rb m refl s.below
    (rw (s.a_is, s.at_is) at pa) (rw (s.b_is, s.at_is) at pb) made (rw s.at_is at put)

-- both places stay within their lists
pub turn_within : (op : Operation) (a b : List Band) (i j after_i after_j : ℕ) (out : List Band) (next_a next_b at : ℤ)
    → Merged op a b i j out → Stands a b i j next_a next_b at
    → Passed i (read32 next_a) (read32 at) after_i → Passed j (read32 next_b) (read32 at) after_j → (after_i ≤ length a) × (after_j ≤ length b)
turn_within op a b i j after_i after_j out next_a next_b at m s pa pb =
    (passed_in a i after_i _ m.a_in s.below (rw (s.a_is, s.at_is) at pa), passed_in b j after_j _ m.b_in s.below (rw (s.b_is, s.at_is) at pb))

-- each turn goes past a bottom
pub turn_smaller : (op : Operation) (a b : List Band) (i j after_i after_j : ℕ) (out : List Band) (next_a next_b at : ℤ)
    → Merged op a b i j out → Stands a b i j next_a next_b at
    → Passed i (read32 next_a) (read32 at) after_i → Passed j (read32 next_b) (read32 at) after_j
    → (length a - after_i) + (length b - after_j) < (length a - i) + (length b - j)
turn_smaller op a b i j after_i after_j out next_a next_b at m s pa pb =
    let in_both = turn_within op a b i j after_i after_j out next_a next_b at m s pa pb in
    passes_one (length a) (length b) i j after_i after_j (next_bottom a i) (next_bottom b j) in_both.0 in_both.1 (rw (s.a_is, s.at_is) at pa) (rw (s.b_is, s.at_is) at pb)

-- ---- beside all rows of the second list

-- what is written so far ends with the first list's row, where the second has none
pub last_kept : (op : Operation) (a b : List Band) (i j : ℕ) (out : List Band) → Merged op a b i j out → last_row [] (take j b) ≡ [] → ((x : Bool) → applied op x false ≡ x) → last_row [] out ≡ last_row [] (take i a)
last_kept op a b i j out m nothing keeps =
    let at = front a b i j in
    let beyond : at ≤ℤ (at +ℤ pos 1) = up at in
    equal_sets (last_row [] out) (last_row [] (take i a)) (last_canonical floor at [] out nothing_canonical m.out_below) (last_canonical floor at [] (take i a) nothing_canonical m.a_below) (λ x.
    ap (λ r. inside r x) (sym (row_past floor at at [] out m.out_below beyond))
    ∙ (m.same x at
    ∙ (rw (row_past floor at at [] (take i a) m.a_below beyond, row_past floor at at [] (take j b) m.b_below beyond, nothing) (keeps (inside (last_row [] (take i a)) x)))))
  where
    up : (z : ℤ) → z ≤ℤ (z +ℤ pos 1)
    up z = omega (arith, ints)

pub beside_all : (op : Operation) (a b : List Band) (i j after_i after_j : ℕ) (out : List Band) (next_a next_b at : ℤ) → IsBanded a → Merged op a b i j out → Stands a b i j next_a next_b at
    → Passed i (read32 next_a) (read32 at) after_i → Passed j (read32 next_b) (read32 at) after_j → after_j ≡ j → last_row [] (take after_j b) ≡ [] → ((x : Bool) → applied op x false ≡ x) → IsBeside op a after_i b after_j out
beside_all op a b i j after_i after_j out next_a next_b at ra m s pa pb still none keeps =
    let nothing : last_row [] (take j b) ≡ [] = rw still at none in
    let p = front a b i j in
    let off : next_bottom b j ≡ p → ⊥ = elim (rw (s.b_is, s.at_is) at pb) [ inl h ↦ absurd (one_more after_j j still h.1) | inr h ↦ h.0 ] in
    let on : next_bottom a i ≡ p = the_other (next_bottom a i) (next_bottom b j) off in
    let next : after_i ≡ i + 1 = elim (rw (s.a_is, s.at_is) at pa) [ inl h ↦ h.1 | inr h ↦ absurd (h.0 on) ] in
    let inner : i < length a = bottom_inside a i p s.below on in
    let last = band_differs a i ra inner in
    rw (next, still) (record {
      some = up i;
      canonical = last.0;
      nothing = nothing;
      keeps = keeps;
      other = λ e. last.1 (sym (last_kept op a b i j out m nothing keeps) ∙ e);
    })
  where
    the_other : (p q : ℤ) → (q ≡ int_min p q → ⊥) → p ≡ int_min p q
    the_other p q h = by_lt_z p q (λ lt. left p q lt) (λ ge. absurd (h (right p q ge)))
      where
        left : (p q : ℤ) → p <ℤ q → p ≡ int_min p q
        left p q lt = omega (arith, ints, clamps)

        right : (p q : ℤ) → q ≤ℤ p → q ≡ int_min p q
        right p q le = omega (arith, ints, clamps)

    up : (n : ℕ) → 0 < n + 1
    up n = omega arith

    one_more : (k j : ℕ) → k ≡ j → k ≡ j + 1 → ⊥
    one_more k j e h = omega (arith, e, h)

-- ---- one turn, as it is written

pub beside_turn : (op : Operation) (a : List Band) (i : ℕ) (b : List Band) (j : ℕ) (out new : List Band) (at : ℤ) (row : List ℤ) → IsBeside op a i b j out → row ≡ last_row [] (take i a) → new ≡ out ++ (at, row) ∷ [] → IsTurn op (last_row [] (take i a)) (last_row [] (take j b)) at out new
beside_turn op a i b j out new at row is same pushed = record {
  row = row;
  made = rw (same, is.nothing) (record { canonical = is.canonical; members = λ x. sym (is.keeps (inside (last_row [] (take i a)) x)) });
  put = inr (rw same is.other, pushed);
}

-- a row put that isn't the last one
pub row_put : (at : ℤ) (kept row : List ℤ) (out new : List Band) → (last_row [] out ≡ kept → ⊥) → row ≡ kept → new ≡ out ++ (at, row) ∷ [] → RowPut at kept out new
row_put at kept row out new other same pushed = inr (other, rw same at pushed)

-- where the first list has no row, the operation may keep that of the second
pub kept_second : (op : Operation) (a b : List Band) (i j : ℕ) (out new : List Band) (at : ℤ) → IsBanded b → 0 < j → j ≤ length b → last_row [] (take i a) ≡ [] → ((x : Bool) → applied op false x ≡ x)
    → RowPut at (last_row [] (take j b)) out new → IsTurn op (last_row [] (take i a)) (last_row [] (take j b)) at out new
kept_second op a b i j out new at region some within nothing keeps put = record {
  row = last_row [] (take j b);
  made = rw nothing (record { canonical = canonical j some within; members = λ x. sym (keeps (inside (last_row [] (take j b)) x)) });
  put = put;
}
  where
    canonical : (j : ℕ) → 0 < j → j ≤ length b → IsCanonical (last_row [] (take j b))
    canonical zero some within = absurd (omega (arith, some))
    canonical (suc k) some within =
        let e : suc k ≡ k + 1 = omega arith in
        rw e ((band_differs b k region (omega (arith, within))).0)
