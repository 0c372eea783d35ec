-- The cells as they were built draw what the library says, as far as the top reaches.
use Rattle.std.proofs.Common.{◌≡◌, ℕ, zero, suc, ◌+◌, ◌<◌, ◌≤◌, List, [], ◌∷◌, ◌++◌, length, map, refl, sym, ap, subst, arith, ◌∙◌}
use Rattle.std.specs.Prelude.{slice_get, Option, Some, None}
use Rattle.std.specs.List.{flat_map}
use Rattle.std.specs.Str.{bytes_eq}
use Rattle.std.proofs.lemmas.Grind.{common_steps}
use Rattle.fill_base.specs.declared.layer.Layer.{Layer}
use Rattle.gds_grammar.specs.Values.{Shape as Element}
use Rattle.gds_cells.specs.Designs.{Entry}
use Rattle.gds_cells.specs.declared.cell.Cell.{Cell}
use Rattle.gds_cells.specs.declared.placement.Placement.{Placement}
use Rattle.gds_cells.specs.Graphs.{next, item, IsReached, IsDeep, IsWhole}
use Rattle.gds_cells.specs.References.{placements_of, name_of}
use Rattle.gds_cells.specs.Copies.{Copy, own_copy, carry_copy, copies}
use Rattle.gds_cells.specs.Designs.{index_of, elements_at, target_if, targets, graph_of, singles_to, singles_among, hierarchy_of}
use Rattle.gds_cells.specs.steps.Searches.{State}
use Rattle.gds_cells.specs.steps.Surveys.{IsSurveyed}
use Rattle.gds_cells.specs.steps.Walks.{own_in, singles_in, hierarchy}
use Rattle.gds_cells.specs.steps.Built.{IsCellAt, AreBuilt}
use Rattle.gds_cells.specs.steps.Counting.{links_in, IsTied}
use Rattle.gds_cells.proofs.Chains.{chain_joins, reached_next}
use Rattle.gds_cells.proofs.Naming.{no_more}

-- ---- the graph

pub next_is : (all es : List Entry) (c : ℕ) → next (map (λ (e : Entry). targets all e.shapes) es) c ≡ targets all (elements_at es c)
next_is all [] c = refl
next_is all (e ∷ es) zero = refl
next_is all (e ∷ es) (suc c) = next_is all es c

small_targets : (all : List Entry) (es : List Element) (k : ℕ) → k < length (targets all es) → item (targets all es) k ≤ length all
small_targets all [] k within = absurd (grind (arith, common_steps, within))
small_targets all (e ∷ es) k within = cases (small_targets all es) (name_of e) k within where
  cases : ((j : ℕ) → j < length (targets all es) → item (targets all es) j ≤ length all) → (o : Option (List ℕ)) (j : ℕ) → j < length (target_if all o ++ targets all es) → item (target_if all o ++ targets all es) j ≤ length all
  cases rest (Some name) zero inside = no_more (λ (x : Entry). bytes_eq name x.name) all
  cases rest (Some name) (suc j) inside = rest j (grind (arith, common_steps, inside))
  cases rest None j inside = rest j inside

pub whole : (all : List Entry) → IsWhole (graph_of all)
whole all c k within =
    let row = next_is all all c in
    let len : length (graph_of all) ≡ length all = grind (arith, common_steps) in
    subst (λ n. item (next (graph_of all) c) k ≤ n) (sym len)
    (subst (λ xs. item xs k ≤ length all) (sym row) (small_targets all (elements_at all c) k (subst (λ xs. k < length xs) row within)))

-- ---- each single reference is to a cell that is reached

Each : {X : Type 0} → (X → Type 0) → List X → Type 0
Each P [] = Unit {0}
Each P (x ∷ xs) = P x × Each P xs

each_joins : {X : Type 0} (P : X → Type 0) (xs ys : List X) → Each P xs → Each P ys → Each P (xs ++ ys)
unfolding Each
each_joins P [] ys h k = k
each_joins P (x ∷ xs) ys (p, h) k = (p, each_joins P xs ys h k)

each_single : (P : ℕ → Type 0) (i : ℕ) → P i → (ps : List Placement) → Each (λ (s : ℕ × Placement). P s.0) (map (λ p. (i, p)) ps)
unfolding Each
each_single P i h [] = tt
each_single P i h (p ∷ ps) = (h, each_single P i h ps)

each_target : (all : List Entry) (P : ℕ → Type 0) (es : List Element) → ((k : ℕ) → k < length (targets all es) → P (item (targets all es) k))
    → Each (λ (s : ℕ × Placement). P s.0) (singles_among all es)
unfolding Each
each_target all P [] h = tt
each_target all P (e ∷ es) h = cases (each_target all P es) (name_of e) h where
  cases : (((k : ℕ) → k < length (targets all es) → P (item (targets all es) k)) → Each (λ (s : ℕ × Placement). P s.0) (singles_among all es))
      → (o : Option (List ℕ)) → ((k : ℕ) → k < length (target_if all o ++ targets all es) → P (item (target_if all o ++ targets all es) k))
      → Each (λ (s : ℕ × Placement). P s.0) (singles_to all o (placements_of e) ++ singles_among all es)
  cases rest (Some name) each =
      each_joins (λ (s : ℕ × Placement). P s.0) (singles_to all (Some name) (placements_of e)) (singles_among all es)
      (each_single P (index_of all name) (each 0 (grind (arith, common_steps))) (placements_of e))
      (rest (λ k within. each (suc k) (grind (arith, common_steps, within))))
  cases rest None each = rest each

same_flat : (P : ℕ → Type 0) (f g : ℕ → List Copy) → ((c : ℕ) → P c → f c ≡ g c) → (ss : List (ℕ × Placement)) → Each (λ (s : ℕ × Placement). P s.0) ss
    → flat_map (λ (s : ℕ × Placement). map (carry_copy s.1) (f s.0)) ss ≡ flat_map (λ (s : ℕ × Placement). map (carry_copy s.1) (g s.0)) ss
unfolding Each
same_flat P f g same [] each = refl
same_flat P f g same (s ∷ ss) (p, each) = rw (same s.0 p, same_flat P f g same ss each) refl

-- ---- copies

module _ (entries : List Entry) (layers : List Layer) (t : ℕ) (s : State) (surveyed : IsSurveyed (graph_of entries) t s) (cells : List Cell)
    (built : AreBuilt entries layers s.steps (length entries) cells) where
  entries_long : length (graph_of entries) ≡ length entries
  entries_long = grind (arith, common_steps)

  -- a reached cell is one of the cells
  inside : (c : ℕ) → IsReached (graph_of entries) t c → c < length entries
  inside c reached =
      let (q, within, is) = surveyed.all c reached in
      let small = surveyed.within q within in
      subst (λ x. x < length entries) is (subst (λ n. item s.order q < n) entries_long small)

  cell_at : (c : ℕ) → IsReached (graph_of entries) t c → IsCellAt entries layers cells c
  cell_at c reached = built.built c (inside c reached) (surveyed.found c reached)

  pub agree : (n c : ℕ) → IsReached (graph_of entries) t c → copies (hierarchy cells) n c ≡ copies (hierarchy_of entries layers) n c
  unfolding copies
  agree zero c reached = refl
  agree (suc n) c reached =
      let cell = cell_at c reached in
      let own : own_in (slice_get cells c) ≡ (hierarchy_of entries layers).own c = ap own_in cell.stands ∙ cell.is.own in
      let singles : singles_in (slice_get cells c) ≡ (hierarchy_of entries layers).singles c = ap singles_in cell.stands ∙ cell.is.singles in
      let each = each_target entries (IsReached (graph_of entries) t) (elements_at entries c) (λ k within.
      subst (λ xs. IsReached (graph_of entries) t (item xs k)) (next_is entries entries c)
      (reached_next (graph_of entries) t c k reached (subst (λ xs. k < length xs) (sym (next_is entries entries c)) within))) in
      rw (own, singles) (ap (λ cs. map own_copy ((hierarchy_of entries layers).own c) ++ cs)
      (same_flat (IsReached (graph_of entries) t) (copies (hierarchy cells) n) (copies (hierarchy_of entries layers) n) (agree n)
      (singles_among entries (elements_at entries c)) each))

  pub tied : (q : ℕ) → q < length s.order → IsTied (graph_of entries) cells (item s.order q)
  tied q within =
      let reached = surveyed.order q within in
      let cell = cell_at (item s.order q) reached in (
        subst (λ n. item s.order q < n) (sym built.long) (inside (item s.order q) reached),
        ap (λ o. map (λ l. l.cell) (links_in o)) cell.stands ∙ cell.is.links ∙ sym (next_is entries entries (item s.order q)),
      )

  -- no chain of 256 references begins at a reached cell
  pub shallow : (c : ℕ) → IsReached (graph_of entries) t c → IsDeep (graph_of entries) 256 c → ⊥
  shallow c (m, way) (d, chain) = surveyed.shallow (record {
    references = m + 256;
    chain = (d, chain_joins (graph_of entries) m 256 t c d way chain);
    many = omega arith;
  })
