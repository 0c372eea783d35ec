-- What the elements of a library do, by what they say alone.
use Rattle.std.proofs.Common.{◌≡◌, refl, ap, ◌∙◌, ℕ, suc, ◌*◌, ◌/◌, ◌%◌, true, false, List, [], ◌∷◌, ◌++◌, map}
use Rattle.std.specs.List.{flat_map, filter, range_with_len, AllByRecursion}
use Rattle.std.proofs.lemmas.Bool.{eq-eqb}
use Rattle.fill_base.specs.declared.layer.Layer.{Layer}
use Rattle.fill_base.specs.declared.place.Point.{Point}
use Rattle.gds_grammar.specs.Values.{Shape, boundary, path, reference, array}
use Rattle.gds_shape.specs.Winding.{covers}
use Rattle.gds_cells.specs.declared.placement.Placement.{Placement}
use Rattle.gds_cells.specs.Copies.{Hierarchy, copies, own_copy, carry_copy}
use Rattle.gds_cells.specs.Designs.{Entry, index_of, singles_to, singles_among}
use Rattle.gds_cells.specs.References.{placement_of, placements_of, name_of, grid_point}
use Rattle.gds_cells.specs.Shapes.{is_shape, covers_of}

-- ---- elements

-- the single references of a shape
abbrev pub singles_of : List Entry → Shape → List (ℕ × Placement)
singles_of cells (boundary l ps) = []
singles_of cells (path l wire) = []
singles_of cells (reference name t o) = (index_of cells name, placement_of t o) ∷ []
singles_of cells (array name t m n ps) = map (λ p. (index_of cells name, p)) (map (λ k. placement_of t (grid_point ps m n (k % m) (k / m))) (range_with_len 0 (m * n)))

singles_are : (cells : List Entry) (e : Shape) → singles_to cells (name_of e) (placements_of e) ≡ singles_of cells e
singles_are cells (boundary l ps) = refl
singles_are cells (path l wire) = refl
singles_are cells (reference name t o) = refl
singles_are cells (array name t m n ps) = refl

pub singles_by_shape : (cells : List Entry) (es : List Shape) → singles_among cells es ≡ flat_map (singles_of cells) (es)
singles_by_shape cells [] = refl
singles_by_shape cells (e ∷ es) = ap (λ s. s ++ singles_among cells es) (singles_are cells e) ∙ ap (λ s. singles_of cells e ++ s) (singles_by_shape cells es)

-- a reference or an array
abbrev pub IsLink : Shape → Type 0
IsLink (boundary l ps) = ⊥
IsLink (path l wire) = ⊥
IsLink (reference name t o) = Unit {0}
IsLink (array name t m n ps) = Unit {0}

not_drawn : (ls : List Layer) (e : Shape) → IsLink e → is_shape ls e ≡ false
not_drawn ls (boundary a ps) is = absurd is
not_drawn ls (path a wire) is = absurd is
not_drawn ls (reference name t o) is = refl
not_drawn ls (array name t m n ps) is = refl

pub links_draw_nothing : (ls : List Layer) (es : List Shape) → AllByRecursion IsLink es → filter (is_shape ls) es ≡ []
links_draw_nothing ls [] all = refl
links_draw_nothing ls (e ∷ es) all = rw (not_drawn ls e all.0) (links_draw_nothing ls es all.1)

-- a boundary of a layer
pub record IsBoundary (l : Layer) (ps : List Point) (e : Shape) : Type 0 where
  pub drawn : is_shape (l ∷ []) e ≡ true
  pub squares : covers_of e ≡ covers ps
  pub nowhere : (cells : List Entry) → singles_to cells (name_of e) (placements_of e) ≡ []

is_boundary : (l : Layer) (ps : List Point) (e : Shape) → e ≡ boundary l ps → IsBoundary l ps e
is_boundary l ps e is = rw is (record { drawn = rw (eq-eqb l.layer l.layer refl, eq-eqb l.data_type l.data_type refl) refl; squares = refl; nowhere = λ cells. refl })

-- the one element of a cell of one boundary
pub record OneBoundary (l : Layer) (ps : List Point) (es : List Shape) : Type 0 where
  pub element : Shape
  pub own : filter (is_shape (l ∷ [])) es ≡ element ∷ []
  pub squares : covers_of element ≡ covers ps
  pub singles : (cells : List Entry) → singles_among cells es ≡ []

pub one_boundary : (l : Layer) (ps : List Point) (es : List Shape) → es ≡ boundary l ps ∷ [] → OneBoundary l ps es
one_boundary l ps [] is = absurd (cc is)
one_boundary l ps (e ∷ []) is =
    let b = is_boundary l ps e (cc is) in
    record { element = e; own = rw b.drawn refl; squares = b.squares; singles = λ cells. rw (b.nowhere cells) refl }
one_boundary l ps (e ∷ f ∷ es) is = absurd (cc is)

-- ---- copies

leaf : (h : Hierarchy) (n : ℕ) (b : Shape) → h.own 0 ≡ b ∷ [] → h.singles 0 ≡ [] → copies h (suc n) 0 ≡ own_copy b ∷ []
unfolding copies
leaf h n b own none = rw (own, none) refl

each_carried : {X : Type 0} (h : Hierarchy) (n : ℕ) (b : Shape) (at : X → Placement) (xs : List X) → copies h n 0 ≡ own_copy b ∷ []
    → flat_map (λ (s : ℕ × Placement). map (carry_copy s.1) (copies h n s.0)) (map (λ x. (0, at x)) xs) ≡ map (λ x. carry_copy (at x) (own_copy b)) xs
each_carried h n b at [] is = refl
each_carried h n b at (x ∷ xs) is =
    ap (λ cs. map (carry_copy (at x)) cs ++ flat_map (λ (s : ℕ × Placement). map (carry_copy s.1) (copies h n s.0)) (map (λ y. (0, at y)) xs)) is
    ∙ ap (λ cs. carry_copy (at x) (own_copy b) ∷ cs) (each_carried h n b at xs is)

-- of a cell of one shape, and of one that refers to it alone
pub carried_copies : {X : Type 0} (h : Hierarchy) (n : ℕ) (b : Shape) (at : X → Placement) (xs : List X) → h.own 0 ≡ b ∷ [] → h.singles 0 ≡ [] → h.own 1 ≡ []
    → h.singles 1 ≡ map (λ x. (0, at x)) xs → copies h (suc (suc n)) 1 ≡ map (λ x. carry_copy (at x) (own_copy b)) xs
unfolding copies
carried_copies h n b at xs own none empty singles = rw (empty, singles) (each_carried h (suc n) b at xs (leaf h n b own none))
