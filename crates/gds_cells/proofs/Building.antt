-- Cells built from their elements, one after the other.
use Rattle.std.proofs.Common.{◌≡◌, ℕ, ◌+◌, drop, suc, zero, ◌<◌, ◌⊎◌, inl, inr, List, [], ◌∷◌, ◌++◌, length, take, map, get_or, refl, sym, ap, subst, arith, ◌∙◌}
use Rattle.std.specs.Prelude.{slice_get, filter, Option, Some, None}
use Rattle.std.proofs.lemmas.Bool.{cases_order}
use Rattle.std.proofs.lemmas.List.{take_more, get_or-take, get_or_append_left, map-append}
use Rattle.std.proofs.lemmas.Option.{slice_get_read, slice_get_past, slice_get-get_or}
use Rattle.std.proofs.Math.Seq.{get_or-append_seam}
use Rattle.std.proofs.lemmas.Grind.{common_steps, flat_map-append}
use Rattle.fill_base.specs.declared.layer.Layer.{Layer}
use Rattle.gds_grammar.specs.Values.{boundary, path, reference, array, Shape as Element, shape_of}
use Rattle.gds_cells.specs.Designs.{Entry}
use Rattle.gds_cells.specs.declared.cell.Cell.{Cell}
use Rattle.gds_cells.specs.declared.cell.Chunk.{Chunk}
use Rattle.gds_cells.specs.declared.link.Link.{Link}
use Rattle.gds_cells.specs.declared.shape.Shape.{Shape}
use Rattle.gds_cells.specs.declared.error.FlattenError.{FlattenError}
use Rattle.gds_cells.specs.declared.error.FlattenError.TheVariants.{Memory}
use Rattle.gds_cells.specs.Graphs.{item, next}
use Rattle.gds_cells.specs.References.{placements_of, name_of}
use Rattle.gds_cells.specs.Shapes.{is_shape}
use Rattle.gds_cells.specs.Designs.{graph_of, index_of, elements_at, target_if, targets, singles_to, singles_among, element_fault, AreFine}
use Rattle.gds_cells.specs.steps.Walks.{singles_of, own_in, singles_in}
use Rattle.gds_cells.specs.steps.Built.{own_of, links_from, singles_from, index_if, IsAdded, AreOf, IsChunk, IsCell, IsFaulty, IsCellAt, AreBuilt, IsFaultAmong}

-- ---- elements

module _ (layers : List Layer) where
  pub fine_more : (es : List Element) (k : ℕ) (e : Element) → k < length es → e ≡ get_or es k e → AreFine layers (take k es)
      → element_fault layers e ≡ None → AreFine layers (take (k + 1) es)
  fine_more es k e within is before fine j d small = cases (cases_order j k) where
    short : j < k + 1
    short = grind (arith, common_steps, small)

    there : get_or (take (k + 1) es) j d ≡ get_or es j d
    there = get_or-take (k + 1) es j d short

    cases : ((j ≡ k) ⊎ ((j < k) ⊎ (k < j))) → element_fault layers (get_or (take (k + 1) es) j d) ≡ None
    cases (inl e_j) = ap (element_fault layers) (there ∙ any_default es j k d e e_j within ∙ sym is) ∙ fine where
      any_default : (xs : List Element) (i n : ℕ) (a b : Element) → i ≡ n → n < length xs → get_or xs i a ≡ get_or xs n b
      any_default xs i n a b same inside = grind (arith, common_steps, same, inside)
    cases (inr (inl less)) =
        let inside : j < length (take k es) = grind (arith, common_steps, less, within) in
        ap (element_fault layers) (there ∙ sym (get_or-take k es j d less)) ∙ before j d inside
    cases (inr (inr more)) = absurd (omega (arith, short, more))

  pub all_fine : (es : List Element) (k : ℕ) → (k < length es → ⊥) → AreFine layers (take k es) → AreFine layers es
  all_fine es k ended fine = let whole : take k es ≡ es = grind (arith, common_steps, ended) in subst (λ xs. AreFine layers xs) whole fine

  pub faulty_here : (es : List Element) (k : ℕ) (element : Element) (e : FlattenError) → k < length es → element ≡ get_or es k element
      → AreFine layers (take k es) → ((e ≡ Memory) ⊎ (element_fault layers element ≡ Some e))
      → (e ≡ Memory) ⊎ IsFaulty layers es e
  faulty_here es k element e within is before (inl m) = inl m
  faulty_here es k element e within is before (inr fault) = inr (record {
    index = k;
    element = element;
    stands = slice_get_read es (length es) k element refl within is;
    faulty = fault;
    before = before;
  })

  module _ (cells : List Entry) where
    filter_joins : (xs ys : List Element) → filter (is_shape layers) (xs ++ ys) ≡ filter (is_shape layers) xs ++ filter (is_shape layers) ys
    filter_joins xs ys = grind (arith, common_steps)

    singles_same : (e : Element) (index : ℕ) → ((name : List ℕ) → name_of e ≡ Some name → index ≡ index_of cells name)
        → map (λ p. (index, p)) (placements_of e) ≡ singles_to cells (name_of e) (placements_of e)
    singles_same (boundary l points) index is = refl
    singles_same (path l wire) index is = refl
    singles_same (reference cell transform origin) index is = ap (λ (i : ℕ). map (λ p. (i, p)) (placements_of (reference cell transform origin))) (is cell refl)
    singles_same (array cell transform columns rows points) index is = ap (λ (i : ℕ). map (λ p. (i, p)) (placements_of (array cell transform columns rows points))) (is cell refl)

    target_same : (o : Option (List ℕ)) (index : ℕ) → ((name : List ℕ) → o ≡ Some name → index ≡ index_of cells name)
        → index_if index o ≡ target_if cells o
    target_same (Some name) index is = ap (λ i. i ∷ []) (is name refl)
    target_same None index is = refl

    -- the reference of the element stands behind those of the elements before it
    pub index_at : (xs ys : List Element) (e : Element) (name : List ℕ) → name_of e ≡ Some name
        → item (targets cells (xs ++ e ∷ ys)) (length (targets cells xs)) ≡ index_of cells name
    index_at xs ys e name named =
        ap (λ zs. item zs (length (targets cells xs))) (flat_map-append (λ x. target_if cells (name_of x)) xs (e ∷ ys)
        ∙ ap (λ o. targets cells xs ++ (target_if cells o ++ targets cells ys)) named)
        ∙ get_or-append_seam (targets cells xs) (index_of cells name) (targets cells ys) 0

    pub chunk_more : (es : List Element) (k : ℕ) (e : Element) (index : ℕ) (old new : Chunk) → k < length es → e ≡ get_or es k e
        → (es ≡ take k es ++ e ∷ drop (k + 1) es → length old.links.items ≡ length (targets cells (take k es)) → (name : List ℕ) → name_of e ≡ Some name → index ≡ index_of cells name)
        → IsChunk cells layers (take k es) old → IsAdded e layers index old new → IsChunk cells layers (take (k + 1) es) new
    chunk_more es k e index old new within is told before added = record { own = own; links = links; singles = singles } where
      split : es ≡ take k es ++ e ∷ drop (k + 1) es
      split = split_at es k e within is where
        split_at : (xs : List Element) (i : ℕ) (x : Element) → i < length xs → x ≡ get_or xs i x → xs ≡ take i xs ++ x ∷ drop (i + 1) xs
        split_at xs i x inside here = grind (arith, common_steps, inside, here)

      before_it : length old.links.items ≡ length (targets cells (take k es))
      before_it = (let all = ap length before.links in let same : length (links_from old.links.items) ≡ length old.links.items = grind (arith, common_steps) in sym same ∙ all)

      index_is : (name : List ℕ) → name_of e ≡ Some name → index ≡ index_of cells name
      index_is = told split before_it

      upto : take (k + 1) es ≡ take k es ++ e ∷ []
      upto = take_more es k e within ∙ ap (λ x. take k es ++ x ∷ []) (sym is)

      nil_right : {X : Type 0} (xs : List X) → xs ≡ xs ++ []
      nil_right xs = grind (arith, common_steps)

      own : own_of new.shapes.items ≡ filter (is_shape layers) (take (k + 1) es)
      own = added.own ∙ ap (λ xs. xs ++ filter (is_shape layers) (e ∷ [])) before.own
          ∙ sym (ap (filter (is_shape layers)) upto ∙ filter_joins (take k es) (e ∷ []))

      links : links_from new.links.items ≡ targets cells (take (k + 1) es)
      links = added.links ∙ ap (λ xs. xs ++ index_if index (name_of e)) before.links
          ∙ ap (λ xs. targets cells (take k es) ++ xs) (target_same (name_of e) index index_is ∙ nil_right (target_if cells (name_of e)))
          ∙ sym (ap (targets cells) upto ∙ flat_map-append (λ x. target_if cells (name_of x)) (take k es) (e ∷ []))

      singles : singles_from new.links.items ≡ singles_among cells (take (k + 1) es)
      singles = added.singles ∙ ap (λ xs. xs ++ map (λ p. (index, p)) (placements_of e)) before.singles
          ∙ ap (λ xs. singles_among cells (take k es) ++ xs) (singles_same e index index_is ∙ nil_right (singles_to cells (name_of e) (placements_of e)))
          ∙ sym (ap (singles_among cells) upto ∙ flat_map-append (λ x. singles_to cells (name_of x) (placements_of x)) (take k es) (e ∷ []))

    -- two lists of elements, one after the other
    pub joins : (es fs : List Element) (ss ts : List Shape) (ks ls : List Link) → AreOf cells layers es ss ks → AreOf cells layers fs ts ls
        → AreOf cells layers (es ++ fs) (ss ++ ts) (ks ++ ls)
    joins es fs ss ts ks ls first second = record {
      own = map-append (λ (s : Shape). (shape_of s.element.now)) ss ts ∙ rw (first.own, second.own) (sym (filter_joins es fs));
      links = map-append (λ (l : Link). l.cell) ks ls ∙ rw (first.links, second.links) (sym (flat_map-append (λ x. target_if cells (name_of x)) es fs));
      singles = flat_map-append singles_of ks ls ∙ rw (first.singles, second.singles) (sym (flat_map-append (λ x. singles_to cells (name_of x) (placements_of x)) es fs));
    }

-- ---- cells

-- a list with one more at its end, at an index
abbrev pub Pushed : List Cell → Cell → ℕ → Type 0
Pushed cells new c = ((c < length cells) × (slice_get (cells ++ new ∷ []) c ≡ slice_get cells c))
    ⊎ (((c ≡ length cells) × (slice_get (cells ++ new ∷ []) c ≡ Some new)) ⊎ ((length cells < c) × (slice_get (cells ++ new ∷ []) c ≡ None)))

pushed : (cells : List Cell) (new : Cell) (c : ℕ) → Pushed cells new c
pushed cells new c = cases (cases_order c (length cells)) where
  long : length (cells ++ new ∷ []) ≡ length cells + 1
  long = grind (arith, common_steps)

  cases : ((c ≡ length cells) ⊎ ((c < length cells) ⊎ (length cells < c))) → Pushed cells new c
  cases (inl e) = inr (inl (
    e,
    slice_get-get_or (cells ++ new ∷ []) c new (omega (arith, e, long)) ∙ ap Some (rw e (get_or-append_seam cells new [] new)),
  ))
  cases (inr (inl less)) = inl (
    less,
    slice_get-get_or (cells ++ new ∷ []) c new (omega (arith, less, long)) ∙ ap Some (get_or_append_left cells (new ∷ []) new c less)
        ∙ sym (slice_get-get_or cells c new less),
  )
  cases (inr (inr more)) = inr (inr (more, slice_get_past (cells ++ new ∷ []) c (omega (arith, more, long))))

module _ (entries : List Entry) (layers : List Layer) (steps : List ℕ) (n : ℕ) (cells : List Cell) (new : Cell)
    (before : AreBuilt entries layers steps n cells) where
  longer : length (cells ++ new ∷ []) ≡ n + 1
  longer = let long = before.long in grind (arith, common_steps, long)

  -- nothing in a cell with no step, if there's nothing in the new one
  still_nothing : {X : Type 0} (f : Option Cell → List X) → f None ≡ [] → (item steps n ≡ 0 → f (Some new) ≡ [])
      → ((c : ℕ) → item steps c ≡ 0 → f (slice_get cells c) ≡ []) → (c : ℕ) → item steps c ≡ 0 → f (slice_get (cells ++ new ∷ []) c) ≡ []
  still_nothing f none nothing old c fresh = cases (pushed cells new c) where
    cases : Pushed cells new c → f (slice_get (cells ++ new ∷ []) c) ≡ []
    cases (inl (less, same)) = ap f same ∙ old c fresh
    cases (inr (inl (e, now))) = let here : c ≡ n = e ∙ before.long in ap f now ∙ nothing (subst (λ x. item steps x ≡ 0) here fresh)
    cases (inr (inr (more, now))) = ap f now ∙ none

  still_built : (c : ℕ) → c < n → IsCellAt entries layers cells c → IsCellAt entries layers (cells ++ new ∷ []) c
  still_built c less old = cases (pushed cells new c) where
    long : length cells ≡ n
    long = before.long

    cases : Pushed cells new c → IsCellAt entries layers (cells ++ new ∷ []) c
    cases (inl (small, same)) = record { cell = old.cell; stands = same ∙ old.stands; is = old.is; fine = old.fine }
    cases (inr (inl (e, now))) = absurd (omega (arith, less, e, long))
    cases (inr (inr (more, now))) = absurd (omega (arith, less, more, long))

  built_here : IsCell entries layers (elements_at entries n) new → AreFine layers (elements_at entries n)
      → IsCellAt entries layers (cells ++ new ∷ []) n
  built_here is fine = cases (pushed cells new n) where
    long : length cells ≡ n
    long = before.long

    cases : Pushed cells new n → IsCellAt entries layers (cells ++ new ∷ []) n
    cases (inl (small, same)) = absurd (omega (arith, small, long))
    cases (inr (inl (e, now))) = record { cell = new; stands = now; is = is; fine = fine }
    cases (inr (inr (more, now))) = absurd (omega (arith, more, long))

  pub built_empty : item steps n ≡ 0 → own_in (Some new) ≡ [] → singles_in (Some new) ≡ []
      → AreBuilt entries layers steps (n + 1) (cells ++ new ∷ [])
  built_empty fresh no_shapes no_links = record {
    long = longer;
    built = built;
    nothing_own = still_nothing own_in refl (λ e. no_shapes) before.nothing_own;
    nothing_below = still_nothing singles_in refl (λ e. no_links) before.nothing_below;
  } where
    built : (c : ℕ) → c < n + 1 → 0 < item steps c → IsCellAt entries layers (cells ++ new ∷ []) c
    built c less some = cases (cases_order c n) where
      cases : ((c ≡ n) ⊎ ((c < n) ⊎ (n < c))) → IsCellAt entries layers (cells ++ new ∷ []) c
      cases (inl e) = let none : item steps c ≡ 0 = ap (item steps) e ∙ fresh in absurd (omega (arith, some, none))
      cases (inr (inl small)) = still_built c small (before.built c small some)
      cases (inr (inr more)) = absurd (omega (arith, less, more))

  pub built_more : (item steps n ≡ 0 → ⊥) → IsCell entries layers (elements_at entries n) new
      → AreFine layers (elements_at entries n) → AreBuilt entries layers steps (n + 1) (cells ++ new ∷ [])
  built_more marked is fine = record {
    long = longer;
    built = built;
    nothing_own = still_nothing own_in refl (λ e. absurd (marked e)) before.nothing_own;
    nothing_below = still_nothing singles_in refl (λ e. absurd (marked e)) before.nothing_below;
  } where
    built : (c : ℕ) → c < n + 1 → 0 < item steps c → IsCellAt entries layers (cells ++ new ∷ []) c
    built c less some = cases (cases_order c n) where
      cases : ((c ≡ n) ⊎ ((c < n) ⊎ (n < c))) → IsCellAt entries layers (cells ++ new ∷ []) c
      cases (inl e) = subst (λ x. IsCellAt entries layers (cells ++ new ∷ []) x) (sym e) (built_here is fine)
      cases (inr (inl small)) = still_built c small (before.built c small some)
      cases (inr (inr more)) = absurd (omega (arith, less, more))

pub fault_among : (entries : List Entry) (layers : List Layer) (steps : List ℕ) (n : ℕ) (cells : List Cell)
    → AreBuilt entries layers steps n cells → (e : FlattenError) → (item steps n ≡ 0 → ⊥)
    → ((e ≡ Memory) ⊎ IsFaulty layers (elements_at entries n) e) → (e ≡ Memory) ⊎ IsFaultAmong entries layers steps e
fault_among entries layers steps n cells before e marked (inl m) = inl m
fault_among entries layers steps n cells before e marked (inr faulty) = inr (record {
  cell = n;
  marked = omega (arith, marked);
  fault = faulty;
  earlier = λ c less some. (before.built c less some).fine;
})

-- the row of a cell
pub row_of : (entries : List Entry) (graph : List (List ℕ)) (c : ℕ) (row : List ℕ) (elements : List Element) → graph ≡ graph_of entries
    → row ≡ next graph c → elements ≡ elements_at entries c → row ≡ targets entries elements
row_of entries graph c row elements is row_is elements_is =
    row_is ∙ ap (λ g. next g c) is ∙ at entries c ∙ ap (targets entries) (sym elements_is) where
      at : (es : List Entry) (k : ℕ) → next (map (λ (e : Entry). targets entries e.shapes) es) k ≡ targets entries (elements_at es k)
      at [] k = refl
      at (e ∷ es) zero = refl
      at (e ∷ es) (suc k) = at es k
