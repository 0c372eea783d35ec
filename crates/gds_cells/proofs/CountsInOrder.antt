-- How many copies each cell of an order draws.
use Rattle.std.proofs.Common.{◌≡◌, ℕ, zero, suc, ◌+◌, ◌*◌, ◌<◌, ◌≤◌, ◌⊎◌, inl, inr, List, [], ◌∷◌, ◌++◌, length, take, map, get_or, refl, sym, ap, subst, arith, ◌∙◌}
use Rattle.std.specs.Prelude.{slice_get, Option, Some}
use Rattle.std.specs.List.{sum_by, flat_map, slice_set, range_with_len}
use Rattle.std.proofs.lemmas.Bool.{cases_eq}
use Rattle.std.proofs.lemmas.List.{get_or-take, length-take-le, length-set}
use Rattle.std.proofs.lemmas.List.FromFn.{length-range_with_len}
use Rattle.std.proofs.lemmas.Grind.{common_steps, flat_map-append}
use Rattle.gds_cells.specs.declared.cell.Cell.{Cell}
use Rattle.gds_cells.specs.declared.link.Link.{Link}
use Rattle.gds_cells.specs.declared.placement.Placement.{Placement}
use Rattle.gds_cells.specs.Graphs.{Graph, next, item, IsDeep}
use Rattle.gds_cells.specs.Links.{single}
use Rattle.gds_cells.specs.Copies.{Copy, own_copy, carry_copy, copies}
use Rattle.gds_cells.specs.steps.Searches.{IsOrdered}
use Rattle.gds_cells.specs.steps.Walks.{singles_of, own_in, singles_in, hierarchy}
use Rattle.gds_cells.specs.steps.Counting.{IsCapped, counted, AreRight, links_in, IsTied, IsCount}
use Rattle.gds_cells.proofs.Items.{Changed, changed}

-- ---- how many copies there are

module _ (below : ℕ → List Copy) where
  abbrev through : ℕ × Placement → List Copy
  through s = map (carry_copy s.1) (below s.0)

  length_turns : (l : Link) (ks : List ℕ)
      → length (flat_map through (map (λ p. (l.cell, p)) (map (single l) ks))) ≡ length ks * length (below l.cell)
  length_turns l [] = grind (arith, common_steps)
  length_turns l (k ∷ ks) =
      let rest = length_turns l ks in
      let first : length (map (carry_copy (single l k)) (below l.cell)) ≡ length (below l.cell) = grind (arith, common_steps) in
      let both : length (flat_map through (map (λ p. (l.cell, p)) (map (single l) (k ∷ ks))))
      ≡ length (below l.cell) + length (flat_map through (map (λ p. (l.cell, p)) (map (single l) ks))) = grind (arith, common_steps, first) in
      both ∙ rw rest (one_row (length ks) (length (below l.cell)))
    where
      one_row : (m n : ℕ) → n + m * n ≡ suc m * n
      one_row m n = grind arith

  length_links : (links : List Link)
      → length (flat_map through (flat_map singles_of links)) ≡ sum_by (λ l. (l.columns * l.rows) * length (below l.cell)) links
  length_links [] = grind (arith, common_steps)
  length_links (l ∷ links) =
      let rest = length_links links in
      let first : length (flat_map through (singles_of l)) ≡ (l.columns * l.rows) * length (below l.cell) =
      length_turns l (range_with_len 0 (l.columns * l.rows)) ∙ ap (λ n. n * length (below l.cell)) (length-range_with_len 0 (l.columns * l.rows)) in
      let apart : flat_map through (singles_of l ++ flat_map singles_of links) ≡ flat_map through (singles_of l) ++ flat_map through (flat_map singles_of links) =
      flat_map-append through (singles_of l) (flat_map singles_of links) in
      grind (arith, common_steps, rest, first, apart)

  length_cell : (o : Option Cell) (cell : Cell) → o ≡ Some cell
      → length (map own_copy (own_in o) ++ flat_map through (singles_in o)) ≡ counted (λ c. length (below c)) cell
  length_cell o cell e = rw e (let links = length_links cell.links.items in grind (arith, common_steps, links))

pub length_copies : (cells : List Cell) (n c : ℕ) (cell : Cell) → slice_get cells c ≡ Some cell
    → length (copies (hierarchy cells) (suc n) c) ≡ counted (λ d. length (copies (hierarchy cells) n d)) cell
unfolding copies
length_copies cells n c cell e = length_cell (copies (hierarchy cells) n) (slice_get cells c) cell e

-- ---- one more cell of the order

pub record Counted (cells : List Cell) (order : List ℕ) (i : ℕ) (counts : List ℕ) : Type 0 where
  pub long : length counts ≡ length cells
  pub most : (c : ℕ) → item counts c ≤ 4000001
  pub right : (g : Graph) → IsOrdered g order → ((q : ℕ) → q < length order → IsTied g cells (item order q))
      → (q : ℕ) → q < i → IsCount g cells (item order q) (item counts (item order q))

-- the counts of all that a cell refers to are right, where no chain from it has n references
below_right : (g : Graph) (cells : List Cell) (order : List ℕ) (i n : ℕ) (counts : List ℕ) (cell : Cell) → IsOrdered g order → i < length order
    → map (λ l. l.cell) cell.links.items ≡ next g (item order i)
    → ((q : ℕ) → q < i → IsCount g cells (item order q) (item counts (item order q)))
    → (IsDeep g (suc n) (item order i) → ⊥) → AreRight (λ d. length (copies (hierarchy cells) n d)) counts cell.links.items
below_right g cells order i n counts cell ordered within tied right shallow j d small =
    let len : length (next g (item order i)) ≡ length cell.links.items = sym (ap length tied) ∙ length-mapped in
    let in_row : j < length (next g (item order i)) = omega (arith, small, len) in
    let there : item (next g (item order i)) j ≡ (get_or cell.links.items j d).cell = ap (λ xs. item xs j) (sym tied) ∙ mapped in
    let (p, under, is) = ordered i j within in_row in
    let long : length (take i order) ≡ i = length-take-le i order (omega (arith, within)) in
    let before : p < i = omega (arith, under, long) in
    let at_p : item order p ≡ (get_or cell.links.items j d).cell = sym (get_or-take i order p 0 before) ∙ is ∙ there in
    let not_deep : IsDeep g n (item order p) → ⊥ = (λ deep. shallow (longer (subst (λ x. IsDeep g n x) (at_p ∙ sym there) deep) in_row)) in
    subst (λ x. IsCapped (length (copies (hierarchy cells) n x)) (item counts x)) at_p (right p before n not_deep)
  where
    length-mapped : length (map (λ l. l.cell) cell.links.items) ≡ length cell.links.items
    length-mapped = grind (arith, common_steps)

    mapped : item (map (λ l. l.cell) cell.links.items) j ≡ (get_or cell.links.items j d).cell
    mapped = at_index cell.links.items j d small
      where
        at_index : (xs : List Link) (k : ℕ) (e : Link) → k < length xs → item (map (λ l. l.cell) xs) k ≡ (get_or xs k e).cell
        at_index [] k e inside = absurd (grind (arith, common_steps, inside))
        at_index (x ∷ xs) zero e inside = refl
        at_index (x ∷ xs) (suc k) e inside = at_index xs k e (grind (arith, common_steps, inside))

    longer : IsDeep g n (item (next g (item order i)) j) → j < length (next g (item order i)) → IsDeep g (suc n) (item order i)
    longer (e, chain) in_row = (e, (j, in_row, chain))

pub counted_more : (cells : List Cell) (order : List ℕ) (i : ℕ) (counts : List ℕ) (cell : Cell) (new : ℕ) → i < length order
    → item order i < length cells → slice_get cells (item order i) ≡ Some cell → Counted cells order i counts
    → ((f : ℕ → ℕ) → AreRight f counts cell.links.items → IsCapped (counted f cell) new)
    → new ≤ 4000001 → Counted cells order (i + 1) (slice_set counts (item order i) new)
counted_more cells order i counts cell new within small is before clause bound = record {
  long = length-set counts (item order i) new ∙ before.long;
  most = most;
  right = right;
} where
  at : (c : ℕ) → Changed counts (item order i) new c
  at c = let long = before.long in changed counts (item order i) new c (omega (arith, small, long))

  most : (c : ℕ) → item (slice_set counts (item order i) new) c ≤ 4000001
  most c = cases (at c) where
    cases : Changed counts (item order i) new c → item (slice_set counts (item order i) new) c ≤ 4000001
    cases (inl (e, now)) = omega (arith, now, bound)
    cases (inr (other, now)) = let old = before.most c in omega (arith, now, old)

  here : (g : Graph) → IsOrdered g order → ((q : ℕ) → q < length order → IsTied g cells (item order q)) → IsCount g cells (item order i) new
  here g ordered tied zero shallow = absurd (shallow (item order i, refl))
  here g ordered tied (suc n) shallow =
      let links : map (λ l. l.cell) cell.links.items ≡ next g (item order i) =
      ap (λ o. map (λ l. l.cell) (links_in o)) (sym is) ∙ (tied i within).1 in
      subst (λ m. IsCapped m new) (sym (length_copies cells n (item order i) cell is))
      (clause (λ d. length (copies (hierarchy cells) n d))
      (below_right g cells order i n counts cell ordered within links (before.right g ordered tied) shallow))

  right : (g : Graph) → IsOrdered g order → ((q : ℕ) → q < length order → IsTied g cells (item order q))
      → (q : ℕ) → q < i + 1 → IsCount g cells (item order q) (item (slice_set counts (item order i) new) (item order q))
  right g ordered tied q earlier = cases (at (item order q)) where
    cases : Changed counts (item order i) new (item order q) → IsCount g cells (item order q) (item (slice_set counts (item order i) new) (item order q))
    cases (inl (e, now)) = rw (now, e) (here g ordered tied)
    cases (inr (other, now)) = rw now (before.right g ordered tied q (below_it (cases_eq q i))) where
      below_it : ((q ≡ i) ⊎ (q ≡ i → ⊥)) → q < i
      below_it (inl e) = absurd (other (ap (item order) e))
      below_it (inr apart) = omega (arith, earlier, apart)
