-- What is drawn on lists of layers.
use Rattle.std.proofs.Common.{◌≡◌, ℕ, zero, suc, ℤ, Bool, true, false, cond, List, [], ◌∷◌, ◌++◌, map, refl, sym, ap, arith}
use Rattle.std.specs.Prelude.{◌||◌, ◌&&◌, ◌==◌, filter, if◌then◌else◌, Some}
use Rattle.std.specs.List.{flat_map}
use Rattle.std.proofs.lemmas.Bool.{and_parts, eq-eqb, eqb-true}
use Rattle.std.proofs.lemmas.List.Folds.{list_any-append}
use Rattle.fill_base.specs.declared.layer.Layer.{Layer}
use Rattle.gds_grammar.specs.Layers.{same_layer, has_layer}
use Rattle.gds_grammar.specs.Values.{boundary, path, reference, array, Shape as Element}
use Rattle.gds_cells.specs.declared.placement.Placement.{Placement}
use Rattle.gds_cells.specs.Placements.{carried, back_x, back_y}
use Rattle.gds_cells.specs.Shapes.{is_shape, covers_of, shape_fault}
use Rattle.gds_cells.specs.References.{reference_fault}
use Rattle.gds_cells.specs.Copies.{Copy, own_copy, carry_copy, copies, copy_covers, drawn}
use Rattle.gds_cells.specs.Designs.{Entry, index_of, elements_at, singles_among, hierarchy_of}
use Rattle.gds_cells.specs.Laws.{ShapesOfOneLayer, OrderIsFree, DrawsTheUnion}
use Rattle.gds_cells.proofs.Composing.{carried_together}

-- ---- one layer

same_is : (l m : Layer) → same_layer l m ≡ true → m ≡ l
same_is l m h =
    let p = and_parts (l.layer == m.layer) (l.data_type == m.data_type) h in
    let first = sym (eqb-true l.layer m.layer p.0) in
    let second = sym (eqb-true l.data_type m.data_type p.1) in
    λ i. record { layer = first i; data_type = second i }

is_same : (l m : Layer) → Some m ≡ Some l → has_layer (l ∷ []) m ≡ true
is_same l m h =
    let same : m ≡ l = cc in
    rw (same, eq-eqb l.layer l.layer refl, eq-eqb l.data_type l.data_type refl) refl

one_is : (l m : Layer) → has_layer (l ∷ []) m ≡ true → Some m ≡ Some l
one_is l m = cases (same_layer l m) refl where
  cases : (b : Bool) → same_layer l m ≡ b → (b || false) ≡ true → Some m ≡ Some l
  cases true same h = ap Some (same_is l m same)
  cases false same h = absurd cc

pub shapes_of_one_layer : ShapesOfOneLayer
shapes_of_one_layer l (boundary m points) = (one_is l m, is_same l m)
shapes_of_one_layer l (path m wire) = (one_is l m, is_same l m)
shapes_of_one_layer l (reference cell transform origin) = ((λ h. absurd cc), (λ h. absurd cc))
shapes_of_one_layer l (array cell transform columns rows points) = ((λ h. absurd cc), (λ h. absurd cc))

-- ---- lists that have the same layers

pub order_is_free : OrderIsFree
order_is_free a b same = (
  (λ cells top. ap (λ (f : Element → Bool). copies (record { own = λ c. filter f (elements_at cells c); singles = λ c. singles_among cells (elements_at cells c) }) 256 (index_of cells top))
      (λ i. λ e. alike e i)),
  (λ e. ap (λ f. if f then shape_fault e else reference_fault e) (alike e)),
) where
  alike : (e : Element) → is_shape a e ≡ is_shape b e
  alike (boundary l points) = same l
  alike (path l wire) = same l
  alike (reference cell transform origin) = refl
  alike (array cell transform columns rows points) = refl

-- ---- one list after the other

carried_drawn : (p : Placement) (cs : List Copy) (x y : ℤ) → drawn (map (carry_copy p) cs) x y ≡ carried p (drawn cs) x y
carried_drawn p [] x y = refl
carried_drawn p (c ∷ cs) x y = rw (carried_together p c.placement (covers_of c.element) x y, carried_drawn p cs x y) refl

in_turns : (p q r s : Bool) → ((p || q) || (r || s)) ≡ ((p || r) || (q || s))
in_turns p q r s = grind arith

first_of : (p q c r s : Bool) → (((p || q) && c) || (r || s)) ≡ (((p && c) || r) || ((q && c) || s))
first_of true q c r s = grind arith
first_of false q c r s = grind arith

module _ (x y : ℤ) where
  joins : (cs ds : List Copy) → drawn (cs ++ ds) x y ≡ (drawn cs x y || drawn ds x y)
  joins cs ds = list_any-append (λ c. copy_covers c x y) cs ds

  -- the first list draws what the others draw together
  abbrev AreBoth : List Copy → List Copy → List Copy → Type 0
  AreBoth all cs ds = drawn all x y ≡ (drawn cs x y || drawn ds x y)

  both_joined : (all cs ds more es fs : List Copy) → AreBoth all cs ds → AreBoth more es fs → AreBoth (all ++ more) (cs ++ es) (ds ++ fs)
  both_joined all cs ds more es fs first second =
      rw (joins all more, joins cs es, joins ds fs, first, second) (in_turns (drawn cs x y) (drawn ds x y) (drawn es x y) (drawn fs x y))

  both_carried : (p : Placement) (all cs ds : List Copy) → ((u v : ℤ) → drawn all u v ≡ (drawn cs u v || drawn ds u v))
      → AreBoth (map (carry_copy p) all) (map (carry_copy p) cs) (map (carry_copy p) ds)
  both_carried p all cs ds h = rw (carried_drawn p all x y, carried_drawn p cs x y, carried_drawn p ds x y) (h (back_x p x y) (back_y p x y))

module _ (cells : List Entry) (a b : List Layer) where
  either_has : (e : Element) → is_shape (a ++ b) e ≡ (is_shape a e || is_shape b e)
  either_has (boundary l points) = list_any-append (λ m. same_layer m l) a b
  either_has (path l wire) = list_any-append (λ m. same_layer m l) a b
  either_has (reference cell transform origin) = refl
  either_has (array cell transform columns rows points) = refl

  -- the first of the elements where it is a shape, and those of the others
  first_own : (x y : ℤ) (p : Bool) (e : Element) (es : List Element)
      → drawn (map own_copy (cond p (e ∷ es) es)) x y ≡ ((p && copy_covers (own_copy e) x y) || drawn (map own_copy es) x y)
  first_own x y true e es = refl
  first_own x y false e es = refl

  both_own : (x y : ℤ) (es : List Element) → AreBoth x y (map own_copy (filter (is_shape (a ++ b)) es)) (map own_copy (filter (is_shape a) es)) (map own_copy (filter (is_shape b) es))
  both_own x y [] = refl
  both_own x y (e ∷ es) =
      rw (
        first_own x y (is_shape (a ++ b) e) e (filter (is_shape (a ++ b)) es),
        first_own x y (is_shape a e) e (filter (is_shape a) es),
        first_own x y (is_shape b e) e (filter (is_shape b) es),
        either_has e,
        both_own x y es,
      )
      (first_of (is_shape a e) (is_shape b e) (copy_covers (own_copy e) x y) (drawn (map own_copy (filter (is_shape a) es)) x y) (drawn (map own_copy (filter (is_shape b) es)) x y))

  abbrev through : (ℕ → List Copy) → List (ℕ × Placement) → List Copy
  through below ss = flat_map (λ (s : ℕ × Placement). map (carry_copy s.1) (below s.0)) ss

  both_below : (x y : ℤ) (all cs ds : ℕ → List Copy) → ((c : ℕ) (u v : ℤ) → AreBoth u v (all c) (cs c) (ds c)) → (ss : List (ℕ × Placement))
      → AreBoth x y (through all ss) (through cs ss) (through ds ss)
  both_below x y all cs ds h [] = refl
  both_below x y all cs ds h (s ∷ ss) =
      both_joined x y (map (carry_copy s.1) (all s.0)) (map (carry_copy s.1) (cs s.0)) (map (carry_copy s.1) (ds s.0)) (through all ss) (through cs ss) (through ds ss)
      (both_carried x y s.1 (all s.0) (cs s.0) (ds s.0) (h s.0)) (both_below x y all cs ds h ss)

  both_copies : (n c : ℕ) (x y : ℤ) → AreBoth x y (copies (hierarchy_of cells (a ++ b)) n c) (copies (hierarchy_of cells a) n c) (copies (hierarchy_of cells b) n c)
  unfolding copies
  both_copies zero c x y = refl
  both_copies (suc n) c x y =
      let own = λ (ls : List Layer). map own_copy (filter (is_shape ls) (elements_at cells c)) in
      let singles = singles_among cells (elements_at cells c) in
      let below = λ (ls : List Layer). copies (hierarchy_of cells ls) n in
      both_joined x y (own (a ++ b)) (own a) (own b) (through (below (a ++ b)) singles) (through (below a) singles) (through (below b) singles)
      (both_own x y (elements_at cells c)) (both_below x y (below (a ++ b)) (below a) (below b) (both_copies n) singles)

pub draws_the_union : DrawsTheUnion
draws_the_union cells top a b x y = both_copies cells a b 256 (index_of cells top) x y
