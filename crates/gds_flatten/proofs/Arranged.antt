-- What is known of cells in an order, each behind all that it refers to, where something was found of each in turn.
use Rattle.std.proofs.Common.{◌≡◌, ℕ, zero, suc, ◌<◌, ◌⊎◌, inl, inr, List, [], ◌∷◌, length, map, take, get_or, refl, sym, ap, subst, arith, ◌∙◌}
use Rattle.std.specs.Prelude.{slice_get, Option, All}
use Rattle.std.proofs.lemmas.List.{length-map, get_or-take, length-take-le}
use Rattle.std.proofs.lemmas.Grind.{common_steps}
use Rattle.gds_shape.specs.declared.bounds.Bounds.{Bounds}
use Rattle.gds_cells.specs.declared.cell.Cell.{Cell}
use Rattle.gds_cells.specs.declared.link.Link.{Link}
use Rattle.gds_cells.specs.declared.error.FlattenError.{FlattenError}
use Rattle.gds_cells.specs.declared.error.FlattenError.TheVariants.{Memory}
use Rattle.gds_cells.specs.Graphs.{Graph, next, item, IsDeep}
use Rattle.gds_cells.specs.steps.Counting.{links_in, IsTied, IsCount, AreCounted}
use Rattle.gds_cells.specs.steps.Searches.{IsIn, IsOrdered}
use Rattle.gds_flatten.specs.steps.Framing.{AreHeld, IsExtentOf, extent_at}
use Rattle.gds_flatten.specs.steps.Reached.{IsArranged}

in_row : (links : List Link) (row : List ℕ) → map (λ l. l.cell) links ≡ row → (k : ℕ) (d : Link) → k < length links
    → (k < length row) × (item row k ≡ (get_or links k d).cell)
in_row links row is k d small = (
  let len : length row ≡ length links = sym (ap length is) ∙ length-map links (λ l. l.cell) in omega (arith, len, small),
  sym (ap (λ xs. item xs k) is) ∙ at_index links k d small,
) where
  at_index : (xs : List Link) (k : ℕ) (e : Link) → k < length xs → item (map (λ l. l.cell) xs) k ≡ (get_or xs k e).cell
  at_index [] k e inside = absurd (grind (arith, common_steps, inside))
  at_index (x ∷ xs) zero e inside = refl
  at_index (x ∷ xs) (suc k) e inside = at_index xs k e (grind (arith, common_steps, inside))

-- the counts, the extents are those of each cell of an order
abbrev pub AreCountsOf : List ℕ → List Cell → List ℕ → Type 0
AreCountsOf counts cells order = (g : Graph) → IsOrdered g order → ((q : ℕ) → q < length order → IsTied g cells (item order q))
    → (q : ℕ) → q < length order → IsCount g cells (item order q) (item counts (item order q))

abbrev pub AreExtentsOf : List (Option Bounds) → List Cell → List ℕ → Type 0
AreExtentsOf extents cells order = (g : Graph) → IsOrdered g order → ((q : ℕ) → q < length order → IsTied g cells (item order q))
    → (q : ℕ) → q < length order → IsExtentOf g cells (item order q) (extent_at extents (item order q))

-- why there are none: memory is refused, or a cell goes too far
abbrev pub IsTooFar : FlattenError → List Cell → List ℕ → Type 0
IsTooFar e cells order = (e ≡ Memory) ⊎ ((g : Graph) → IsOrdered g order → ((q : ℕ) → q < length order → IsTied g cells (item order q)) → ((q : ℕ) → q < length order → IsDeep g 256 (item order q) → ⊥) → ⊥)

-- cells with the same links stand in the same order
pub same_links : (old new : List Cell) (order : List ℕ) (top : ℕ) → length new ≡ length old → ((c : ℕ) → links_in (slice_get new c) ≡ links_in (slice_get old c)) → IsArranged old order top → IsArranged new order top
same_links old new order top long same a = record {
  graph = a.graph;
  ordered = a.ordered;
  tied = λ q lt.
      let tied = a.tied q lt in (
        subst (λ n. item order q < n) (sym long) tied.0,
        ap (map (λ (l : Link). l.cell)) (same (item order q)) ∙ tied.1,
      );
  shallow = a.shallow;
  here = a.here;
}

module _ (cells : List Cell) (order : List ℕ) (top : ℕ) (a : IsArranged cells order top) where
  below : (q k : ℕ) → q < length order → k < length (next a.graph (item order q)) → IsIn order (item (next a.graph (item order q)) k)
  below q k lt in_row =
      let (p, under, is) = a.ordered q k lt in_row in
      let long : length (take q order) ≡ q = length-take-le q order (omega (arith, lt)) in
      let before : p < q = omega (arith, under, long) in
      (p, omega (arith, before, lt), sym (get_or-take q order p 0 before) ∙ is)

  -- what holds of a cell where it holds of all that it refers to, holds of all
  throughout : (P : ℕ → ℕ → Type 0)
      → ((n q : ℕ) → q < length order → (IsDeep a.graph (suc n) (item order q) → ⊥) → All (λ l. P n l.cell) (links_in (slice_get cells (item order q))) → P (suc n) (item order q))
      → (n c : ℕ) → IsIn order c → (IsDeep a.graph n c → ⊥) → P n c
  throughout P step zero c here shallow = absurd (shallow (c, refl))
  throughout P step (suc n) c (q, lt, is) shallow = subst (P (suc n)) is (step n q lt deep (λ k d small.
      let row = in_row (links_in (slice_get cells (item order q))) (next a.graph (item order q)) (a.tied q lt).1 k d small in
      subst (P n) row.1 (throughout P step n (item (next a.graph (item order q)) k) (below q k lt row.0) (λ chain. deep (chain.0, (k, row.0, chain.1))))))
    where
      deep : IsDeep a.graph (suc n) (item order q) → ⊥
      deep = subst (λ x. IsDeep a.graph (suc n) x → ⊥) (sym is) shallow

  at_top : (P : ℕ → ℕ → Type 0)
      → ((n q : ℕ) → q < length order → (IsDeep a.graph (suc n) (item order q) → ⊥) → All (λ l. P n l.cell) (links_in (slice_get cells (item order q))) → P (suc n) (item order q))
      → P 256 top
  at_top P step =
      let (q, lt, is) = a.here in throughout P step 256 top a.here (subst (λ x. IsDeep a.graph 256 x → ⊥) is (a.shallow q lt))

  pub top_counted : (counts : List ℕ) → AreCountsOf counts cells order → AreCounted cells counts 256 top
  unfolding AreCounted
  top_counted counts right = at_top (AreCounted cells counts) step where
    step : (n q : ℕ) → q < length order → (IsDeep a.graph (suc n) (item order q) → ⊥) → All (λ l. AreCounted cells counts n l.cell) (links_in (slice_get cells (item order q))) → AreCounted cells counts (suc n) (item order q)
    step n q lt shallow all = (right a.graph a.ordered a.tied q lt (suc n) shallow, all)

  pub top_held : (extents : List (Option Bounds)) → AreExtentsOf extents cells order → AreHeld cells extents 256 top
  unfolding AreHeld
  top_held extents right = at_top (AreHeld cells extents) step where
    step : (n q : ℕ) → q < length order → (IsDeep a.graph (suc n) (item order q) → ⊥) → All (λ l. AreHeld cells extents n l.cell) (links_in (slice_get cells (item order q))) → AreHeld cells extents (suc n) (item order q)
    step n q lt shallow all = (right a.graph a.ordered a.tied q lt (suc n) shallow, all)

  -- no cell goes farther than chains can bring back
  pub never_far : (e : FlattenError) → IsTooFar e cells order → e ≡ Memory
  never_far e (inl m) = m
  never_far e (inr never) = absurd (never a.graph a.ordered a.tied a.shallow)
