-- Lists of copies that were appended.
use Rattle.std.proofs.Common.{◌≡◌, ℕ, zero, suc, ◌+◌, ◌-◌, ◌<◌, ◌≤◌, ◌⊎◌, inl, inr, ℤ, Bool, List, get_or, [], ◌∷◌, ◌++◌, length, take, map, refl, sym, ap, subst, arith, ◌∙◌}
use Rattle.std.specs.Prelude.{false, ◌||◌, ◌*◌, Option, Some, None, slice_get}
use Rattle.std.specs.List.{flat_map, range_with_len}
use Rattle.std.proofs.lemmas.List.Elements.{All-append}
use Rattle.std.proofs.lemmas.List.{get_or_append_left, get_or-append-add, take_more, map-append}
use Rattle.std.proofs.lemmas.List.FromFn.{get_or-range_with_len, length-range_with_len, map-range_with_len_more}
use Rattle.std.proofs.lemmas.Grind.{common_steps, flat_map-append}
use Rattle.fill_base.specs.declared.rect.Rect.{Rect}
use Rattle.fill_region.specs.Squares.{covered}
use Rattle.gds_grammar.specs.Values.{Shape as Element, shape_of}
use Rattle.gds_cells.specs.declared.error.FlattenError.{FlattenError}
use Rattle.gds_cells.specs.declared.error.FlattenError.TheVariants.{Memory, OutOfRange}
use Rattle.gds_cells.specs.declared.placement.Placement.{Placement}
use Rattle.gds_cells.specs.Placements.{carried, composed}
use Rattle.gds_cells.specs.Shapes.{covers_of, StaysInRange}
use Rattle.gds_cells.specs.Copies.{Copy, own_copy, carry_copy, copies, copy_covers, drawn, AllStayInRange}
use Rattle.gds_cells.specs.steps.Walks.{shapes_in, singles_of, own_in, singles_in, hierarchy, shape_copies, single_copies, link_copies, cell_copies, IsDrawn}
use Rattle.gds_cells.specs.declared.cell.Cell.{Cell}
use Rattle.gds_cells.specs.declared.link.Link.{Link}
use Rattle.gds_cells.specs.declared.shape.Shape.{Shape}
use Rattle.gds_cells.specs.Links.{single}
use Rattle.gds_cells.specs.steps.Ranges.{IsWithin}
use Rattle.gds_cells.proofs.Composing.{composed_groups, composed_still}
use Rattle.gds_cells.proofs.Within.{within_next}

append_nil : {X : Type 0} (xs : List X) → xs ++ [] ≡ xs
append_nil [] = refl
append_nil (x ∷ xs) = ap (λ ys. x ∷ ys) (append_nil xs)

zero_more : (k : ℕ) → 0 + k ≡ k
zero_more k = omega arith

pub or_false : (a : Bool) → a ≡ (a || false)
or_false a = grind arith

pub or_joins : (a b c : Bool) → ((a || b) || c) ≡ (a || (b || c))
or_joins a b c = grind arith

pub drawn_joins : (cs ds : List Copy) (x y : ℤ) → drawn (cs ++ ds) x y ≡ (drawn cs x y || drawn ds x y)
drawn_joins [] ds x y = refl
drawn_joins (c ∷ cs) ds x y = rw (drawn_joins cs ds x y) (sym (or_joins (copy_covers c x y) (drawn cs x y) (drawn ds x y)))

pub nothing_drawn : (rects : List Rect) → IsDrawn [] rects rects
nothing_drawn rects = record {
  inside = λ k d within. absurd (grind (arith, common_steps, within));
  added = λ x y. or_false (covered rects x y);
}

pub drawn_more : (cs ds : List Copy) (old mid new : List Rect) → IsDrawn cs old mid → IsDrawn ds mid new → IsDrawn (cs ++ ds) old new
drawn_more cs ds old mid new first then = record {
  inside = All-append (λ (c : Copy). StaysInRange c.placement c.element) cs ds first.inside then.inside;
  added = λ x y. then.added x y ∙ rw (first.added x y, drawn_joins cs ds x y) (or_joins (covered old x y) (drawn cs x y) (drawn ds x y));
}

pub one_drawn : (c : Copy) (old new : List Rect) → StaysInRange c.placement c.element
    → ((x y : ℤ) → covered new x y ≡ (covered old x y || carried c.placement (covers_of c.element) x y)) → IsDrawn (c ∷ []) old new
one_drawn c old new inside added = record {
  inside = λ k d within. stays k d within;
  added = λ x y. rw (sym (or_false (copy_covers c x y))) (added x y);
} where
  stays : (k : ℕ) (d : Copy) → k < length (c ∷ []) → StaysInRange ((get_or (c ∷ []) k d).placement) ((get_or (c ∷ []) k d).element)
  stays zero d within = inside
  stays (suc k) d within = absurd (grind (arith, common_steps, within))

-- what leaves the range with fewer copies, leaves it with more
pub first_leaves : (cs ds : List Copy) → (AllStayInRange cs → ⊥) → AllStayInRange (cs ++ ds) → ⊥
first_leaves cs ds leaves all = leaves (λ k d within. subst (λ (c : Copy). StaysInRange c.placement c.element)
    (get_or_append_left cs ds d k within) (all k d (longer k within))) where
      longer : (k : ℕ) → k < length cs → k < length (cs ++ ds)
      longer k within = grind (arith, common_steps, within)

pub later_leaves : (cs ds : List Copy) → (AllStayInRange ds → ⊥) → AllStayInRange (cs ++ ds) → ⊥
later_leaves cs ds leaves all = leaves (λ k d within. subst (λ (c : Copy). StaysInRange c.placement c.element)
    (get_or-append-add cs ds k d) (all (length cs + k) d (longer k within))) where
      longer : (k : ℕ) → k < length ds → length cs + k < length (cs ++ ds)
      longer k within = grind (arith, common_steps, within)

pub one_leaves : (c : Copy) → (StaysInRange c.placement c.element → ⊥) → AllStayInRange (c ∷ []) → ⊥
one_leaves c leaves all = leaves (all 0 c (grind (arith, common_steps)))

-- ---- one more of a list, each of which draws some copies

pub list_more : {X : Type 0} (f : X → List Copy) (xs : List X) (k : ℕ) (d : X) → k < length xs
    → flat_map f (take (k + 1) xs) ≡ flat_map f (take k xs) ++ f (get_or xs k d)
list_more f xs k d within =
    ap (flat_map f) (take_more xs k d within) ∙ flat_map-append f (take k xs) (get_or xs k d ∷ [])
    ∙ ap (λ (cs : List Copy). flat_map f (take k xs) ++ cs) (append_nil (f (get_or xs k d)))

pub drawn_next : {X : Type 0} (f : X → List Copy) (xs : List X) (k : ℕ) (d : X) (old mid new : List Rect) → k < length xs
    → IsDrawn (flat_map f (take k xs)) old mid → IsDrawn (f (get_or xs k d)) mid new → IsDrawn (flat_map f (take (k + 1) xs)) old new
drawn_next f xs k d old mid new within before next =
    rw (list_more f xs k d within) (drawn_more (flat_map f (take k xs)) (f (get_or xs k d)) old mid new before next)

pub next_leaves : {X : Type 0} (f : X → List Copy) (xs : List X) (k : ℕ) (d : X) → k < length xs
    → (AllStayInRange (f (get_or xs k d)) → ⊥) → AllStayInRange (flat_map f xs) → ⊥
next_leaves f (x ∷ xs) zero d within leaves = first_leaves (f x) (flat_map f xs) leaves
next_leaves f (x ∷ xs) (suc k) d within leaves =
    later_leaves (f x) (flat_map f xs) (next_leaves f xs k d (grind (arith, common_steps, within)) leaves)
next_leaves f [] k d within leaves = absurd (grind (arith, common_steps, within))

-- ---- all that a shape or cell draws, carried

pub shape_drawn : (at : Placement) (element : Element) (old new : List Rect) → StaysInRange at element
    → ((x y : ℤ) → covered new x y ≡ (covered old x y || carried at (covers_of element) x y))
    → IsDrawn (carry_copy at (own_copy element) ∷ []) old new
shape_drawn at element old new inside added =
    one_drawn (carry_copy at (own_copy element)) old new
    (subst (λ (p : Placement). StaysInRange p element) (sym (composed_still at)) inside)
    (λ x y. subst (λ (p : Placement). covered new x y ≡ (covered old x y || carried p (covers_of element) x y)) (sym (composed_still at)) (added x y))

pub shape_leaves : (at : Placement) (element : Element) → (StaysInRange at element → ⊥)
    → AllStayInRange (carry_copy at (own_copy element) ∷ []) → ⊥
shape_leaves at element leaves =
    one_leaves (carry_copy at (own_copy element)) (λ stays. leaves (subst (λ (p : Placement). StaysInRange p element) (composed_still at) stays))

pub carried_twice : (p q : Placement) (cs : List Copy) → map (carry_copy p) (map (carry_copy q) cs) ≡ map (carry_copy (composed p q)) cs
carried_twice p q [] = refl
carried_twice p q (c ∷ cs) = λ k. record { placement = composed_groups p q c.placement k; element = c.element } ∷ carried_twice p q cs k

own_carried : (at : Placement) (shapes : List Shape)
    → map (carry_copy at) (map own_copy (map (λ s. (shape_of s.element.now)) shapes)) ≡ flat_map (shape_copies at) shapes
own_carried at [] = refl
own_carried at (s ∷ shapes) = ap (λ cs. carry_copy at (own_copy (shape_of s.element.now)) ∷ cs) (own_carried at shapes)

module _ (at : Placement) (below : ℕ → List Copy) where
  abbrev through : ℕ × Placement → List Copy
  through s = map (carry_copy s.1) (below s.0)

  singles_carried : (l : Link) (ks : List ℕ)
      → map (carry_copy at) (flat_map through (map (λ p. (l.cell, p)) (map (single l) ks))) ≡ flat_map (single_copies at below l) ks
  singles_carried l [] = refl
  singles_carried l (k ∷ ks) =
      map-append (carry_copy at) (map (carry_copy (single l k)) (below l.cell)) (flat_map through (map (λ p. (l.cell, p)) (map (single l) ks)))
      ∙ rw (carried_twice at (single l k) (below l.cell), singles_carried l ks) refl

  links_carried : (links : List Link)
      → map (carry_copy at) (flat_map through (flat_map singles_of links)) ≡ flat_map (link_copies at below) links
  links_carried [] = refl
  links_carried (l ∷ links) =
      ap (map (carry_copy at)) (flat_map-append through (singles_of l) (flat_map singles_of links))
      ∙ map-append (carry_copy at) (flat_map through (singles_of l)) (flat_map through (flat_map singles_of links))
      ∙ rw (singles_carried l (range_with_len 0 (l.columns * l.rows)), links_carried links) refl

  cell_carried : (o : Option Cell)
      → map (carry_copy at) (map own_copy (own_in o) ++ flat_map through (singles_in o)) ≡ cell_copies at below o
  cell_carried None = refl
  cell_carried (Some c) =
      map-append (carry_copy at) (map own_copy (own_in (Some c))) (flat_map through (singles_in (Some c)))
      ∙ rw (own_carried at (shapes_in c), links_carried c.links.items) refl

pub copies_carried : (cells : List Cell) (n i : ℕ) (at : Placement)
    → map (carry_copy at) (copies (hierarchy cells) (suc n) i) ≡ cell_copies at (copies (hierarchy cells) n) (slice_get cells i)
unfolding copies
copies_carried cells n i at = cell_carried at (copies (hierarchy cells) n) (slice_get cells i)

-- where there is no cell, or no chain, there are no copies
pub no_chain : (cells : List Cell) (i : ℕ) → copies (hierarchy cells) 0 i ≡ []
unfolding copies
no_chain cells i = refl

pub no_cell : (cells : List Cell) (n i : ℕ) → slice_get cells i ≡ None → copies (hierarchy cells) n i ≡ []
unfolding copies
no_cell cells zero i e = refl
no_cell cells (suc n) i e = rw e refl

-- ---- turns of a link

as_they_are : (ks : List ℕ) → map (λ k. k) ks ≡ ks
as_they_are [] = refl
as_they_are (k ∷ ks) = ap (λ xs. k ∷ xs) (as_they_are ks)

pub range_more : (f : ℕ → List Copy) (k : ℕ) → flat_map f (range_with_len 0 (k + 1)) ≡ flat_map f (range_with_len 0 k) ++ f k
range_more f k =
    let last : range_with_len 0 (k + 1) ≡ range_with_len 0 k ++ k ∷ [] =
    sym (as_they_are (range_with_len 0 (k + 1))) ∙ map-range_with_len_more (λ j. j) 0 k k (zero_more k)
    ∙ ap (λ xs. xs ++ k ∷ []) (as_they_are (range_with_len 0 k)) in
    ap (flat_map f) last ∙ flat_map-append f (range_with_len 0 k) (k ∷ []) ∙ ap (λ (cs : List Copy). flat_map f (range_with_len 0 k) ++ cs) (append_nil (f k))

pub turn_leaves : (f : ℕ → List Copy) (n k : ℕ) → k < n → (AllStayInRange (f k) → ⊥) → AllStayInRange (flat_map f (range_with_len 0 n)) → ⊥
turn_leaves f n k within leaves =
    let long : k < length (range_with_len 0 n) = subst (λ m. k < m) (sym (length-range_with_len 0 n)) within in
    let at_k : get_or (range_with_len 0 n) k 0 ≡ k = get_or-range_with_len 0 n k 0 within ∙ zero_more k in
    next_leaves f (range_with_len 0 n) k 0 long (λ stays. leaves (subst (λ j. AllStayInRange (f j)) at_k stays))

-- ---- a cell

pub all_copies : (cells : List Cell) (n i : ℕ) (cell : Cell) (at : Placement) → 0 < n → slice_get cells i ≡ Some cell
    → map (carry_copy at) (copies (hierarchy cells) n i)
    ≡ flat_map (shape_copies at) (shapes_in cell) ++ flat_map (link_copies at (copies (hierarchy cells) (n - 1))) cell.links.items
all_copies cells zero i cell at some is = absurd (omega (arith, some))
all_copies cells (suc n) i cell at some is =
    let less : suc n - 1 ≡ n = omega arith in
    copies_carried cells n i at ∙ rw (is, less) refl

-- one link of the cell leaves the range
pub link_of_cell_leaves : (cells : List Cell) (n i : ℕ) (cell : Cell) (at : Placement) (j : ℕ) (l : Link) → 0 < n → slice_get cells i ≡ Some cell
    → j < length cell.links.items → l ≡ get_or cell.links.items j l
    → (AllStayInRange (link_copies at (copies (hierarchy cells) (n - 1)) l) → ⊥)
    → AllStayInRange (map (carry_copy at) (copies (hierarchy cells) n i)) → ⊥
link_of_cell_leaves cells n i cell at j l some is in_links l_is leaves all =
    let below = copies (hierarchy cells) (n - 1) in
    later_leaves (flat_map (shape_copies at) (shapes_in cell)) (flat_map (link_copies at below) cell.links.items)
    (next_leaves (link_copies at below) cell.links.items j l in_links
    (λ stays. leaves (subst (λ m. AllStayInRange (link_copies at below m)) (sym l_is) stays)))
    (subst (λ cs. AllStayInRange cs) (all_copies cells n i cell at some is) all)

-- ---- errors

pub refused_more : {P Q : Type 0} (e : FlattenError) → ((P → ⊥) → Q → ⊥) → ((e ≡ Memory) ⊎ ((e ≡ OutOfRange) × (P → ⊥)))
    → (e ≡ Memory) ⊎ ((e ≡ OutOfRange) × (Q → ⊥))
refused_more e leaves (inl m) = inl m
refused_more e leaves (inr (o, not_p)) = inr (o, leaves not_p)

-- ---- as the code has it

pub deeper : (n : ℕ) (p q r : Placement) → n ≤ 256 → IsWithin (256 - n) p → IsWithin 1 q → r ≡ composed p q → IsWithin (257 - n) r
deeper n p q r few h k is =
    let more : (256 - n) + 1 ≡ 257 - n = omega (arith, few) in
    rw is (subst (λ m. IsWithin m (composed p q)) more (within_next (256 - n) p q h k))

pub whole_flat : {X : Type 0} (xs ys : List X) (k : ℕ) → xs ≡ ys → (k < length xs → ⊥) → take k xs ≡ ys
whole_flat xs ys k same ended =
    let all : take k xs ≡ xs = grind (arith, common_steps, ended) in all ∙ same
