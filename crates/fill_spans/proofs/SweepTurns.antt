-- One turn of the sweep, as the code's calls describe it.
use Rattle.std.proofs.Common.{◌≡◌, ℕ, ◌+◌, ◌-◌, ◌≤◌, ◌<◌, ℤ, ◌≤ℤ◌, ◌<ℤ◌, List, length, refl, arith, ◌⊎◌, inl, inr, w32, FitsSigned}
use Rattle.std.specs.Int.{int_min}
use Rattle.std.proofs.lemmas.Int.{ints, clamps, by_lt_z}
use Rattle.fill_base.proofs.Signed.{read32, read32_is}
use Rattle.fill_spans.specs.declared.operation.Operation.{Operation}
use Rattle.fill_spans.specs.Spans.{odd, floor, ceiling, next_edge, IsCanonical}
use Rattle.fill_spans.specs.Operations.{applied}
use Rattle.fill_spans.specs.Sweep.{Passed, Turned}
use Rattle.fill_spans.proofs.Chains.{chain_at, chain_within}
use Rattle.fill_spans.proofs.Merging.{Merged, merged_step, front, passed_in}

-- an edge, or the ceiling, fits the code's numbers
pub edge_fits : (z : ℤ) → floor <ℤ z → z ≤ℤ ceiling → FitsSigned w32 z
edge_fits z low high = omega (arith, ints)

pub edge_read : (es : List ℤ) (k : ℕ) → IsCanonical es → read32 (next_edge es k) ≡ next_edge es k
edge_read es k canonical = let in_range = chain_at floor ceiling es k canonical.rising in read32_is _ (edge_fits (next_edge es k) in_range.0 in_range.1)

-- where the sweep stands
pub record Stands (a b : List ℤ) (i j : ℕ) (next_a next_b at : ℤ) : Type 0 where
  pub a_is : read32 next_a ≡ next_edge a i
  pub b_is : read32 next_b ≡ next_edge b j
  pub at_is : read32 at ≡ front a b i j
  pub below : front a b i j <ℤ ceiling

pub stands : (a b : List ℤ) (i j : ℕ) (next_a next_b at : ℤ) → IsCanonical a → IsCanonical b → (i < length a) ⊎ (j < length b)
    → next_a ≡ next_edge a i → next_b ≡ next_edge b j → at ≡ int_min (read32 next_a) (read32 next_b) → Stands a b i j next_a next_b at
stands a b i j next_a next_b at ca cb more is_a is_b is_at =
    let at_front : at ≡ front a b i j = rw (is_a, is_b, edge_read a i ca, edge_read b j cb) at is_at in
    let range_a = chain_at floor ceiling a i ca.rising in
    let range_b = chain_at floor ceiling b j cb.rising in
    let fits : FitsSigned w32 (front a b i j) = min_fits (next_edge a i) (next_edge b j) range_a.0 range_b.0 range_a.1 in
    record {
      a_is = rw is_a (edge_read a i ca);
      b_is = rw is_b (edge_read b j cb);
      at_is = rw at_front (read32_is _ fits);
      below = elim more [
        | inl lt ↦ min_below_left (next_edge a i) (next_edge b j) (chain_within floor ceiling a i lt ca.rising).1
        | inr lt ↦ min_below_right (next_edge a i) (next_edge b j) (chain_within floor ceiling b j lt cb.rising).1
      ];
    }
  where
    min_fits : (p q : ℤ) → floor <ℤ p → floor <ℤ q → p ≤ℤ ceiling → FitsSigned w32 (int_min p q)
    min_fits p q h k l = omega (arith, ints, clamps)

    min_below_left : (p q : ℤ) → p <ℤ ceiling → int_min p q <ℤ ceiling
    min_below_left p q h = omega (arith, ints, clamps)

    min_below_right : (p q : ℤ) → q <ℤ ceiling → int_min p q <ℤ ceiling
    min_below_right p q h = omega (arith, ints, clamps)

pub turn_keeps : (op : Operation) (a b : List ℤ) (i j after_i after_j : ℕ) (out new : List ℤ) (next_a next_b at : ℤ)
    → IsCanonical a → IsCanonical b → Merged op a b i j out → Stands a b i j next_a next_b at
    → Passed i (read32 next_a) (read32 at) after_i → Passed j (read32 next_b) (read32 at) after_j
    → Turned (read32 at) (applied op (odd after_i) (odd after_j)) out new → Merged op a b after_i after_j new
turn_keeps op a b i j after_i after_j out new next_a next_b at ca cb m s pa pb turned =
    merged_step op a b i j after_i after_j out new (front a b i j) ca cb m refl s.below
    (rw (s.a_is, s.at_is) at pa) (rw (s.b_is, s.at_is) at pb) (rw s.at_is at turned)

-- the sweep stands at one of the two next edges
neither : (p q : ℤ) → (p ≡ int_min p q → ⊥) → (q ≡ int_min p q → ⊥) → ⊥
neither p q h k = by_lt_z q p (λ lt. k (omega (arith, ints, clamps))) (λ le. h (omega (arith, ints, clamps)))

-- of two places that a sweep passes by its nearer edge, one goes on
pub passes_one : (m n i j after_i after_j : ℕ) (p q : ℤ) → after_i ≤ m → after_j ≤ n → Passed i p (int_min p q) after_i → Passed j q (int_min p q) after_j
    → (m - after_i) + (n - after_j) < (m - i) + (n - j)
passes_one m n i j after_i after_j p q in_a in_b (inl h) (inl k) = let e : after_i ≡ i + 1 = h.1 in let f : after_j ≡ j + 1 = k.1 in omega arith
passes_one m n i j after_i after_j p q in_a in_b (inl h) (inr k) = let e : after_i ≡ i + 1 = h.1 in let f : after_j ≡ j = k.1 in omega arith
passes_one m n i j after_i after_j p q in_a in_b (inr h) (inl k) = let e : after_i ≡ i = h.1 in let f : after_j ≡ j + 1 = k.1 in omega arith
passes_one m n i j after_i after_j p q in_a in_b (inr h) (inr k) = absurd (neither p q h.0 k.0)

-- each turn goes past an edge
pub turn_smaller : (op : Operation) (a b : List ℤ) (i j after_i after_j : ℕ) (out : List ℤ) (next_a next_b at : ℤ)
    → Merged op a b i j out → Stands a b i j next_a next_b at
    → Passed i (read32 next_a) (read32 at) after_i → Passed j (read32 next_b) (read32 at) after_j
    → (length a - after_i) + (length b - after_j) < (length a - i) + (length b - j)
turn_smaller op a b i j after_i after_j out next_a next_b at m s pa pb =
    let pa' : Passed i (next_edge a i) (front a b i j) after_i = rw (s.a_is, s.at_is) at pa in
    let pb' : Passed j (next_edge b j) (front a b i j) after_j = rw (s.b_is, s.at_is) at pb in
    passes_one (length a) (length b) i j after_i after_j (next_edge a i) (next_edge b j) (passed_in a i after_i _ m.a_in s.below pa') (passed_in b j after_j _ m.b_in s.below pb') pa' pb'
