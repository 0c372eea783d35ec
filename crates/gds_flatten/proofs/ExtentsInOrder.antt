-- The extents of the cells of an order.
use Rattle.std.proofs.Common.{◌≡◌, ℕ, zero, suc, ◌+◌, ◌<◌, ◌⊎◌, inl, inr, List, [], ◌∷◌, length, take, map, get_or, refl, sym, ap, subst, arith, ◌∙◌}
use Rattle.std.specs.Prelude.{slice_get, Option, Some, None, All}
use Rattle.std.specs.List.{slice_set}
use Rattle.std.proofs.lemmas.Bool.{cases_eq}
use Rattle.std.proofs.lemmas.List.{get_or-take, length-take-le, length-set, get_or-set_same, get_or-set_other}
use Rattle.std.proofs.lemmas.Grind.{common_steps}
use Rattle.gds_shape.specs.declared.bounds.Bounds.{Bounds}
use Rattle.gds_cells.specs.declared.cell.Cell.{Cell}
use Rattle.gds_cells.specs.declared.link.Link.{Link}
use Rattle.gds_cells.specs.Graphs.{Graph, next, item, IsDeep}
use Rattle.gds_cells.specs.Copies.{Copy, copies}
use Rattle.gds_cells.specs.steps.Searches.{IsOrdered}
use Rattle.gds_cells.specs.steps.Walks.{hierarchy}
use Rattle.gds_cells.specs.steps.Counting.{links_in, IsTied}
use Rattle.gds_flatten.specs.steps.Framing.{IsFineIf, IsRight, cell_draws, AllFit, square, AreRightlyHeld, IsExtentOf, extent_at}
use Rattle.gds_flatten.proofs.Sized.{copies_sized}

copies_are : (cells : List Cell) (n c : ℕ) (cell : Cell) → slice_get cells c ≡ Some cell → copies (hierarchy cells) (suc n) c ≡ cell_draws (copies (hierarchy cells) n) cell
unfolding copies
copies_are cells n c cell e = rw e refl

pub record Extended (cells : List Cell) (order : List ℕ) (i : ℕ) (extents : List (Option Bounds)) : Type 0 where
  pub long : length extents ≡ length cells
  pub fine : All IsFineIf extents
  pub right : (g : Graph) → IsOrdered g order → ((q : ℕ) → q < length order → IsTied g cells (item order q))
      → (q : ℕ) → q < i → IsExtentOf g cells (item order q) (extent_at extents (item order q))

-- the extents of all that a cell refers to are right, where no chain from it has n references
below_right : (g : Graph) (cells : List Cell) (order : List ℕ) (i n : ℕ) (extents : List (Option Bounds)) (cell : Cell) → IsOrdered g order → i < length order
    → map (λ l. l.cell) cell.links.items ≡ next g (item order i)
    → ((q : ℕ) → q < i → IsExtentOf g cells (item order q) (extent_at extents (item order q)))
    → (IsDeep g (suc n) (item order i) → ⊥) → AreRightlyHeld (copies (hierarchy cells) n) extents cell.links.items
below_right g cells order i n extents cell ordered within tied right shallow j d small =
    let len : length (next g (item order i)) ≡ length cell.links.items = sym (ap length tied) ∙ length-mapped in
    let in_row : j < length (next g (item order i)) = omega (arith, small, len) in
    let there : item (next g (item order i)) j ≡ (get_or cell.links.items j d).cell = ap (λ xs. item xs j) (sym tied) ∙ mapped in
    let (p, under, is) = ordered i j within in_row in
    let long : length (take i order) ≡ i = length-take-le i order (omega (arith, within)) in
    let before : p < i = omega (arith, under, long) in
    let at_p : item order p ≡ (get_or cell.links.items j d).cell = sym (get_or-take i order p 0 before) ∙ is ∙ there in
    let not_deep : IsDeep g n (item order p) → ⊥ = (λ deep. shallow (longer (subst (λ x. IsDeep g n x) (at_p ∙ sym there) deep) in_row)) in
    subst (λ x. IsRight (copies (hierarchy cells) n x) (extent_at extents x)) at_p (right p before n not_deep)
  where
    length-mapped : length (map (λ l. l.cell) cell.links.items) ≡ length cell.links.items
    length-mapped = grind (arith, common_steps)

    mapped : item (map (λ l. l.cell) cell.links.items) j ≡ (get_or cell.links.items j d).cell
    mapped = at_index cell.links.items j d small
      where
        at_index : (xs : List Link) (k : ℕ) (e : Link) → k < length xs → item (map (λ l. l.cell) xs) k ≡ (get_or xs k e).cell
        at_index [] k e inside = absurd (grind (arith, common_steps, inside))
        at_index (x ∷ xs) zero e inside = refl
        at_index (x ∷ xs) (suc k) e inside = at_index xs k e (grind (arith, common_steps, inside))

    longer : IsDeep g n (item (next g (item order i)) j) → j < length (next g (item order i)) → IsDeep g (suc n) (item order i)
    longer (e, chain) in_row = (e, (j, in_row, chain))

pub extended_more : (cells : List Cell) (order : List ℕ) (i : ℕ) (extents : List (Option Bounds)) (cell : Cell) (new : Option Bounds) → i < length order
    → item order i < length cells → slice_get cells (item order i) ≡ Some cell → Extended cells order i extents
    → ((below : ℕ → List Copy) → AreRightlyHeld below extents cell.links.items → IsRight (cell_draws below cell) new)
    → IsFineIf new → Extended cells order (i + 1) (slice_set extents (item order i) new)
extended_more cells order i extents cell new within small is before clause new_fine = record {
  long = length-set extents (item order i) new ∙ before.long;
  fine = fine;
  right = right;
} where
  room : item order i < length extents
  room = let long = before.long in omega (arith, small, long)

  fine : All IsFineIf (slice_set extents (item order i) new)
  fine k d lt = cases (cases_eq k (item order i)) where
    cases : ((k ≡ item order i) ⊎ (k ≡ item order i → ⊥)) → IsFineIf (get_or (slice_set extents (item order i) new) k d)
    cases (inl e) = subst (λ j. IsFineIf (get_or (slice_set extents (item order i) new) j d)) (sym e) (subst IsFineIf (sym (get_or-set_same extents (item order i) new d room)) new_fine)
    cases (inr other) = let len = length-set extents (item order i) new in
        subst IsFineIf (sym (get_or-set_other extents (item order i) k new d other)) (before.fine k d (omega (arith, lt, len)))

  here : (g : Graph) → IsOrdered g order → ((q : ℕ) → q < length order → IsTied g cells (item order q)) → IsExtentOf g cells (item order i) new
  here g ordered tied zero shallow = absurd (shallow (item order i, refl))
  here g ordered tied (suc n) shallow =
      let links : map (λ l. l.cell) cell.links.items ≡ next g (item order i) =
      ap (λ o. map (λ l. l.cell) (links_in o)) (sym is) ∙ (tied i within).1 in
      subst (λ cs. IsRight cs new) (sym (copies_are cells n (item order i) cell is))
      (clause (copies (hierarchy cells) n) (below_right g cells order i n extents cell ordered within links (before.right g ordered tied) shallow))

  right : (g : Graph) → IsOrdered g order → ((q : ℕ) → q < length order → IsTied g cells (item order q))
      → (q : ℕ) → q < i + 1 → IsExtentOf g cells (item order q) (extent_at (slice_set extents (item order i) new) (item order q))
  right g ordered tied q earlier = cases (cases_eq (item order q) (item order i)) where
    cases : ((item order q ≡ item order i) ⊎ (item order q ≡ item order i → ⊥)) → IsExtentOf g cells (item order q) (extent_at (slice_set extents (item order i) new) (item order q))
    cases (inl e) = subst (λ j. IsExtentOf g cells j (extent_at (slice_set extents (item order i) new) j)) (sym e)
        (subst (IsExtentOf g cells (item order i)) (sym (get_or-set_same extents (item order i) new None room)) (here g ordered tied))
    cases (inr other) = subst (IsExtentOf g cells (item order q)) (sym (get_or-set_other extents (item order i) (item order q) new None other))
        (before.right g ordered tied q (below_it (cases_eq q i))) where
          below_it : ((q ≡ i) ⊎ (q ≡ i → ⊥)) → q < i
          below_it (inl e) = absurd (other (ap (item order) e))
          below_it (inr apart) = omega (arith, earlier, apart)

-- the extents of all that a cell refers to are no farther than chains of 255 references go
pub below_fit : (cells : List Cell) (order : List ℕ) (i : ℕ) (extents : List (Option Bounds)) (cell : Cell) → i < length order → slice_get cells (item order i) ≡ Some cell
    → Extended cells order i extents → (g : Graph) → IsOrdered g order → ((q : ℕ) → q < length order → IsTied g cells (item order q))
    → ((q : ℕ) → q < length order → IsDeep g 256 (item order q) → ⊥) → AllFit (square 256) extents cell.links.items
below_fit cells order i extents cell within is before g ordered tied shallow = λ k d lt.
    let links : map (λ l. l.cell) cell.links.items ≡ next g (item order i) = ap (λ o. map (λ l. l.cell) (links_in o)) (sym is) ∙ (tied i within).1 in
    let l = get_or cell.links.items k d in
    let right = below_right g cells order i 255 extents cell ordered within links (before.right g ordered tied) (shallow i within) k d lt in
    (right.tight (square 256)).1 (copies_sized cells 255 l.cell)
