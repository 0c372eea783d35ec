-- What a search that has ended tells of the cells that the top reaches.
use Rattle.std.proofs.Common.{◌≡◌, ℕ, ◌<◌, ◌≤◌, ◌⊎◌, inl, inr, false, List, [], length, refl, sym, ap, subst, arith, ◌∙◌}
use Rattle.std.proofs.lemmas.Bool.{cases_order}
use Rattle.std.proofs.lemmas.Grind.{common_steps}
use Rattle.gds_cells.specs.Graphs.{Graph, item, IsReached, IsTooDeep}
use Rattle.gds_cells.specs.steps.Searches.{State, IsIn, IsClosed, IsSearch}
use Rattle.std.specs.Global.{Vec}
use Rattle.gds_cells.specs.steps.Rows.{rows}
use Rattle.gds_cells.specs.steps.Surveys.{IsSurveyed}
use Rattle.gds_cells.proofs.Items.{item_within}
use Rattle.gds_cells.proofs.Searched.{reached_marked, reached_in_order, order_reached, acyclic}

module _ (g : Graph) (t : ℕ) (s : State) (h : IsSearch g t s) (ended : s.trail ≡ []) where
  pub lacks : 0 < item s.steps (length g) → IsReached g t (length g)
  lacks some = h.found (length g) some

  pub complete : (0 < item s.steps (length g) → ⊥) → IsReached g t (length g) → ⊥
  complete none reached = none (reached_marked g t s h ended (length g) reached)

  -- what stands in the order is one of the cells, or the missing one
  pub in_order : (q : ℕ) → q < length s.order → item s.order q ≤ length g
  in_order q within =
      let full : IsClosed g s.steps (item s.order q) = h.order q within in
      let inside = item_within s.steps (item s.order q) (omega (arith, full)) in
      let long = h.long in omega (arith, inside, long)

  pub top_in_order : IsIn s.order t
  top_in_order = reached_in_order g t s h ended t (0, refl)

  pub surveyed : (0 < item s.steps (length g) → ⊥) → s.cyclic ≡ false → (IsTooDeep g t → ⊥) → IsSurveyed g t s
  surveyed none free shallow = record {
    complete = complete none;
    acyclic = acyclic g t s h ended free;
    shallow = shallow;
    marked = h.found;
    found = reached_marked g t s h ended;
    order = order_reached g t s h ended;
    within = within;
    all = reached_in_order g t s h ended;
    ordered = h.ordered free;
  } where
    within : (q : ℕ) → q < length s.order → item s.order q < length g
    within q below = cases (cases_order (item s.order q) (length g)) where
      most : item s.order q ≤ length g
      most = in_order q below

      cases : ((item s.order q ≡ length g) ⊎ ((item s.order q < length g) ⊎ (length g < item s.order q))) → item s.order q < length g
      cases (inl e) = absurd (complete none (subst (λ c. IsReached g t c) e (order_reached g t s h ended q below)))
      cases (inr (inl less)) = less
      cases (inr (inr more)) = absurd (omega (arith, most, more))

-- as the code asks it: the count of steps at the index of a missing cell
pub not_marked : (steps xs : List ℕ) (graph : List (Vec ℕ)) (n told : ℕ) → xs ≡ steps → n ≡ length graph → told ≡ item xs n → (0 < told → ⊥)
    → 0 < item steps (length (rows graph)) → ⊥
not_marked steps xs graph n told same is e none some =
    let len : length (rows graph) ≡ n = (let mapped : length (rows graph) ≡ length graph = grind (arith, common_steps) in mapped ∙ sym is) in
    none (subst (λ x. 0 < x) (ap (item steps) len ∙ ap (λ ys. item ys n) (sym same) ∙ sym e) some)
