-- The sweep over two lists of edges: what it has written so far, and each step.
use Rattle.std.proofs.Common.{◌≡◌, ℕ, ◌+◌, ◌≤◌, ◌<◌, ℤ, pos, ◌+ℤ◌, ◌≤ℤ◌, ◌<ℤ◌, List, [], ◌∷◌, ◌++◌, length, take, refl, arith, ap, ◌∙◌, sym, Bool, true, false, inl, inr}
use Rattle.std.specs.Int.{int_min}
use Rattle.std.proofs.lemmas.Int.{ints, clamps, by_lt_z}
use Rattle.std.proofs.lemmas.Bool.{cases_lt}
use Rattle.std.proofs.lemmas.Bool.Decides.{nat_tests}
use Rattle.std.proofs.lemmas.List.{take_more, length-take-le, length_push, get_or_past}
use Rattle.fill_base.proofs.Signed.{lt_le}
use Rattle.fill_spans.specs.declared.operation.Operation.{Operation}
use Rattle.fill_spans.specs.declared.operation.Operation.TheVariants.{Union, Minus, Meet}
use Rattle.fill_spans.specs.Spans.{inside, Chain, odd, floor, ceiling, next_edge, IsCanonical}
use Rattle.fill_spans.specs.Operations.{applied}
use Rattle.fill_spans.specs.Sweep.{Passed, Turned}
use Rattle.fill_spans.proofs.Chains.{chain_raise, chain_push, chain_next, chain_at, inside_past, inside_push_below, take_all_inside}

-- the nearest edge of either list that is still to come
abbrev pub front : List ℤ → List ℤ → ℕ → ℕ → ℤ
front a b i j = int_min (next_edge a i) (next_edge b j)

pub record Merged (op : Operation) (a b : List ℤ) (i j : ℕ) (out : List ℤ) : Type 0 where
  pub a_in : i ≤ length a
  pub b_in : j ≤ length b
  pub same : (x : ℤ) → inside out x ≡ applied op (inside (take i a) x) (inside (take j b) x)
  pub out_below : Chain floor out (front a b i j)
  pub a_below : Chain floor (take i a) (front a b i j)
  pub b_below : Chain floor (take j b) (front a b i j)

-- at the edge `p` a list goes from `old` to `new`: below, nothing changes; from `p` on, its length decides
pub record Grows (p : ℤ) (old new : List ℤ) : Type 0 where
  pub below : (x : ℤ) → x <ℤ p → inside new x ≡ inside old x
  pub past : (x : ℤ) → p ≤ℤ x → inside new x ≡ odd (length new)
  pub reach : (q : ℤ) → p <ℤ q → Chain floor new q

pub grows_same : (p : ℤ) (es : List ℤ) → Chain floor es p → Grows p es es
grows_same p es h = record {
  below = λ x lt. refl;
  past = λ x le. inside_past floor p x es h (omega (arith, ints));
  reach = λ q lt. chain_raise floor p q es h (lt_le p q lt);
}

pub grows_push : (p : ℤ) (es : List ℤ) → Chain floor es p → Grows p es (es ++ p ∷ [])
grows_push p es h = record {
  below = λ x lt. inside_push_below p x es lt;
  past = λ x le. inside_past floor (x +ℤ pos 1) x (es ++ p ∷ []) (chain_push floor p (x +ℤ pos 1) es h (omega (arith, ints))) (omega (arith, ints));
  reach = λ q lt. chain_push floor p q es h lt;
}

-- an edge at which the sweep stands below the ceiling is an edge of the list
edge_inside : (es : List ℤ) (k : ℕ) (p : ℤ) → p <ℤ ceiling → next_edge es k ≡ p → k < length es
edge_inside es k p high is = elim (cases_lt k (length es)) [
  | inl lt ↦ lt
  | inr past ↦ absurd (lt_not_same p ceiling high (sym is ∙ get_or_past es k ceiling past))
]
  where
    lt_not_same : (a b : ℤ) → a <ℤ b → a ≡ b → ⊥
    lt_not_same a b lt e = omega (arith, ints)

pub passed_in : (es : List ℤ) (k after : ℕ) (p : ℤ) → k ≤ length es → p <ℤ ceiling → Passed k (next_edge es k) p after → after ≤ length es
passed_in es k after p within high (inl h) = let lt : k < length es = edge_inside es k p high h.0 in let e : after ≡ k + 1 = h.1 in omega arith
passed_in es k after p within high (inr h) = let e : after ≡ k = h.1 in omega arith

-- the list read so far, as the sweep passes `p`
pub grows_read : (es : List ℤ) (k after : ℕ) (p : ℤ) → k ≤ length es → Chain floor (take k es) p
    → p <ℤ ceiling → Passed k (next_edge es k) p after → Grows p (take k es) (take after es)
grows_read es k after p within below high (inl h) =
    let inner : k < length es = edge_inside es k p high h.0 in
    let e : take after es ≡ take k es ++ p ∷ [] = rw h.1 (take_more es k ceiling inner ∙ ap (λ z. take k es ++ z ∷ []) h.0) in
    rw e (grows_push p (take k es) below)
grows_read es k after p within below high (inr h) = rw h.1 (grows_same p (take k es) below)

-- the next edge of a list that the sweep has passed is further on
pub further : (es : List ℤ) (k after : ℕ) (p : ℤ) → IsCanonical es → p ≤ℤ next_edge es k → p <ℤ ceiling
    → Passed k (next_edge es k) p after → p <ℤ next_edge es after
further es k after p canonical le high (inl h) =
    rw h.1 (let lt : next_edge es k <ℤ next_edge es (k + 1) = chain_next floor ceiling es k (edge_inside es k p high h.0) canonical.rising in
    let e : next_edge es k ≡ p = h.0 in rw e at lt)
further es k after p canonical le high (inr h) = rw h.1 (strictly p (next_edge es k) le h.0)
  where
    strictly : (a b : ℤ) → a ≤ℤ b → (b ≡ a → ⊥) → a <ℤ b
    strictly a b le ne = by_lt_z a b (λ lt. lt) (λ ge. absurd (ne (omega (arith, ints))))

-- what is written so far, as the sweep passes `p`
pub grows_written : (out new : List ℤ) (p : ℤ) (wanted : Bool) → Chain floor out p → Turned p wanted out new → Grows p out new
grows_written out new p wanted below (inl h) = rw h.1 (grows_same p out below)
grows_written out new p wanted below (inr h) = rw h.1 (grows_push p out below)

-- and it is as wanted
pub as_wanted : (out new : List ℤ) (p : ℤ) (wanted : Bool) → Turned p wanted out new → odd (length new) ≡ wanted
as_wanted out new p wanted (inl h) = rw h.1 h.0
as_wanted out new p wanted (inr h) = rw (h.1, length_push out p) (other (length out) wanted h.0)
  where
    other : (n : ℕ) (b : Bool) → (odd n ≡ b → ⊥) → odd (n + 1) ≡ b
    other n true ne = grind (arith, nat_tests)
    other n false ne = grind (arith, nat_tests)

min_left : (p q : ℤ) → int_min p q ≤ℤ p
min_left p q = omega (arith, ints, clamps)

min_right : (p q : ℤ) → int_min p q ≤ℤ q
min_right p q = omega (arith, ints, clamps)

below_both : (p q r : ℤ) → p <ℤ q → p <ℤ r → p <ℤ int_min q r
below_both p q r h k = omega (arith, ints, clamps)

pub merged_step : (op : Operation) (a b : List ℤ) (i j after_i after_j : ℕ) (out new : List ℤ) (at : ℤ)
    → IsCanonical a → IsCanonical b → Merged op a b i j out → at ≡ front a b i j → at <ℤ ceiling
    → Passed i (next_edge a i) at after_i → Passed j (next_edge b j) at after_j
    → Turned at (applied op (odd after_i) (odd after_j)) out new → Merged op a b after_i after_j new
merged_step op a b i j after_i after_j out new at ca cb m is high pa pb turned =
    let grown_a : Grows at (take i a) (take after_i a) = grows_read a i after_i at m.a_in (rw is m.a_below) high pa in
    let grown_b : Grows at (take j b) (take after_j b) = grows_read b j after_j at m.b_in (rw is m.b_below) high pb in
    let grown : Grows at out new = grows_written out new at (applied op (odd after_i) (odd after_j)) (rw is m.out_below) turned in
    let at_a : at ≤ℤ next_edge a i = rw is (min_left (next_edge a i) (next_edge b j)) in
    let at_b : at ≤ℤ next_edge b j = rw is (min_right (next_edge a i) (next_edge b j)) in
    let far_a : at <ℤ next_edge a after_i = further a i after_i at ca at_a high pa in
    let far_b : at <ℤ next_edge b after_j = further b j after_j at cb at_b high pb in
    let far : at <ℤ front a b after_i after_j = below_both at (next_edge a after_i) (next_edge b after_j) far_a far_b in
    let in_a : after_i ≤ length a = passed_in a i after_i at m.a_in high pa in
    let in_b : after_j ≤ length b = passed_in b j after_j at m.b_in high pb in
    record {
      a_in = in_a;
      b_in = in_b;
      same = λ x. by_lt_z x at
          (λ lt. grown.below x lt ∙ (m.same x ∙ rw (grown_a.below x lt, grown_b.below x lt) refl))
          (λ le. grown.past x le ∙ (as_wanted out new at (applied op (odd after_i) (odd after_j)) turned
          ∙ rw (grown_a.past x le, grown_b.past x le, length-take-le after_i a in_a, length-take-le after_j b in_b) refl));
      out_below = grown.reach _ far;
      a_below = grown_a.reach _ far;
      b_below = grown_b.reach _ far;
    }

pub nothing_from_nothing : (op : Operation) → applied op false false ≡ false
nothing_from_nothing Union = refl
nothing_from_nothing Minus = refl
nothing_from_nothing Meet = refl

-- the sweep has come to the end of both lists
pub merged_members : (op : Operation) (a b : List ℤ) (i j : ℕ) (out : List ℤ) → Merged op a b i j out → length a ≤ i → length b ≤ j
    → (x : ℤ) → inside out x ≡ applied op (inside a x) (inside b x)
merged_members op a b i j out m end_a end_b x = m.same x ∙ rw (take_all_inside x a i end_a, take_all_inside x b j end_b) refl

pub merged_canonical : (op : Operation) (a b : List ℤ) (i j : ℕ) (out : List ℤ) → IsCanonical a → IsCanonical b → Merged op a b i j out
    → length a ≤ i → length b ≤ j → IsCanonical out
merged_canonical op a b i j out ca cb m end_a end_b =
    let most : front a b i j ≤ℤ ceiling = min_le (next_edge a i) (next_edge b j) ceiling (chain_at floor ceiling a i ca.rising).1 in
    let rising : Chain floor out ceiling = chain_raise floor (front a b i j) ceiling out m.out_below most in
    let beyond : ceiling ≤ℤ (ceiling +ℤ pos 1) = omega (arith, ints) in
    record {
      rising = rising;
      even = sym (inside_past floor ceiling ceiling out rising beyond) ∙ (merged_members op a b i j out m end_a end_b ceiling
          ∙ rw (inside_past floor ceiling ceiling a ca.rising beyond, inside_past floor ceiling ceiling b cb.rising beyond, ca.even, cb.even) (nothing_from_nothing op));
    }
  where
    min_le : (p q r : ℤ) → p ≤ℤ r → int_min p q ≤ℤ r
    min_le p q r h = omega (arith, ints, clamps)
