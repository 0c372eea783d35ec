-- A corner is that of one place, or of none.
use Rattle.std.proofs.Common.{◌≡◌, refl, sym, ap, ◌∙◌, ℕ, zero, suc, ◌+◌, ◌*◌, ◌/◌, ◌%◌, ◌<◌, ◌≤◌, ℤ, unsigned_abs, arith, Bool, true, false, ◌&&◌, ◌||◌, List, [], ◌∷◌, ◌++◌, length, get_or, take, append_assoc, map}
use Rattle.std.specs.Prelude.{Some, None, if◌then◌else◌}
use Rattle.std.specs.List.{flat_map, list_any, range_with_len}
use Rattle.std.proofs.lemmas.Grind.{flat_map-append}
use Rattle.std.specs.Ordering.{int_eq}
use Rattle.std.proofs.lemmas.Int.{ints}
use Rattle.std.proofs.lemmas.List.{append-nil, map-append, take_more}
use Rattle.std.proofs.lemmas.List.FromFn.{map-range_with_len_more}
use Rattle.fill_base.specs.declared.place.Point.{Point}
use Rattle.gds_grammar.specs.declared.element.Transform.{Transform}
use Rattle.gds_grammar.specs.declared.element.Element.{Element}
use Rattle.gds_cells.specs.Designs.{elements_at}
use Rattle.gds_grammar.specs.Values.{Cell, Shape, array, reference, shape_of}
use Rattle.gds_cells.specs.declared.error.FlattenError.{FlattenError}
use Rattle.gds_cells.specs.declared.error.FlattenError.TheVariants.{BadArray, BadTransform}
use Rattle.gds_cells.specs.declared.link.Link.{Link}
use Rattle.gds_cells.specs.declared.placement.Placement.{Placement}
use Rattle.gds_cells.specs.Links.{single}
use Rattle.gds_cells.specs.Placements.{placed}
use Rattle.gds_cells.specs.References.{array_fault, array_placements, grid_point, is_bad_array, is_bad_transform, placement_of, placements_of, reference_fault}
use Rattle.std.proofs.lemmas.Bool.{and_from, and_parts}
use Rattle.std.proofs.lemmas.Bool.Decides.{Decides-int_eq}
use Rattle.fill_raster.specs.Axes.{IsAxis, box_begin}
use Rattle.fill_raster.specs.Lattice.{Lattice, in_raster}
use Rattle.fill_raster.proofs.Ranges.{both}
use Rattle.gds_out.specs.FillContents.{corner_of}
use Rattle.gds_join.specs.Reading.{corners_of, is_point}
use Rattle.gds_join.specs.steps.Far.{IsFar, origin_of, point, stands_at}
use Rattle.gds_join.proofs.Telling.{same_begin}

-- the place (k, l) has its corner at (x, y), and no other has
pub one_place : (r : Lattice) (k l x y i j : ℤ) → IsAxis r.across → IsAxis r.up → in_raster r k l ≡ true → box_begin r.across k ≡ x → box_begin r.up l ≡ y
    → int_eq i k && int_eq j l ≡ in_raster r i j && is_point (corner_of r i j) (point x y)
one_place r k l x y i j across up on left bottom = both _ _
    (λ h.
    let parts = and_parts (int_eq i k) (int_eq j l) h in
    let a : i ≡ k = (Decides-int_eq i k).0 parts.0 in
    let b : j ≡ l = (Decides-int_eq j l).0 parts.1 in
    and_from _ _ (rw (a, b) on) (and_from _ _ ((Decides-int_eq x (box_begin r.across i)).1 (sym left ∙ ap (box_begin r.across) (sym a))) ((Decides-int_eq y (box_begin r.up j)).1 (sym bottom ∙ ap (box_begin r.up) (sym b)))))
    (λ h.
    let parts = and_parts (int_eq x (box_begin r.across i)) (int_eq y (box_begin r.up j)) (and_parts (in_raster r i j) _ h).1 in
    let a : box_begin r.across i ≡ box_begin r.across k = sym ((Decides-int_eq x (box_begin r.across i)).0 parts.0) ∙ sym left in
    let b : box_begin r.up j ≡ box_begin r.up l = sym ((Decides-int_eq y (box_begin r.up j)).0 parts.1) ∙ sym bottom in
    and_from _ _ (sym (same_begin r.across i k across.step_is.least) ∙ (Decides-int_eq _ _).1 a) (sym (same_begin r.up j l up.step_is.least) ∙ (Decides-int_eq _ _).1 b))

-- no place has
pub no_place : (r : Lattice) (x y i j : ℤ) → (in_raster r i j ≡ true → box_begin r.across i ≡ x → box_begin r.up j ≡ y → ⊥) → (filled : Bool) → filled ≡ filled || (in_raster r i j && is_point (corner_of r i j) (point x y))
no_place r x y i j never true = refl
no_place r x y i j never false = sym (by (in_raster r i j && is_point (corner_of r i j) (point x y)) refl)
  where
    by : (b : Bool) → in_raster r i j && is_point (corner_of r i j) (point x y) ≡ b → in_raster r i j && is_point (corner_of r i j) (point x y) ≡ false
    by true h =
        let parts = and_parts (in_raster r i j) _ h in
        let at = and_parts (int_eq x (box_begin r.across i)) (int_eq y (box_begin r.up j)) parts.1 in
        absurd (never parts.0 (sym ((Decides-int_eq x (box_begin r.across i)).0 at.0)) (sym ((Decides-int_eq y (box_begin r.up j)).0 at.1)))
    by false h = h

-- ---- points one after another

any_append : {X : Type 0} (p : X → Bool) (xs ys : List X) → list_any p (xs ++ ys) ≡ list_any p xs || list_any p ys
any_append p [] ys = refl
any_append p (x ∷ xs) ys = ap (λ b. p x || b) (any_append p xs ys) ∙ sym (grouped (p x) (list_any p xs) (list_any p ys))
  where
    grouped : (a b c : Bool) → (a || b) || c ≡ a || (b || c)
    grouped true b c = refl
    grouped false b c = refl

split_or : (f o a b : Bool) → (f || (o && a)) || (o && b) ≡ f || (o && (a || b))
split_or true o a b = refl
split_or false true a b = refl
split_or false false a b = refl

no_or : (b : Bool) → b || false ≡ b
no_or true = refl
no_or false = refl

no_and : (a : Bool) → a && false ≡ false
no_and true = refl
no_and false = refl

pub stands_none : (r : Lattice) (i j : ℤ) (filled : Bool) → filled ≡ filled || stands_at r [] i j
stands_none r i j filled = sym (ap (λ b. filled || b) (no_and (in_raster r i j)) ∙ no_or filled)

-- what one point more fills
pub stands_more : (r : Lattice) (points : List Point) (p : Point) (i j : ℤ) (old new next : Bool) → new ≡ old || stands_at r points i j → next ≡ new || (in_raster r i j && is_point (corner_of r i j) p)
    → next ≡ old || stands_at r (points ++ p ∷ []) i j
stands_more r points p i j old new next so_far this =
    this ∙ (ap (λ b. b || (in_raster r i j && is_point (corner_of r i j) p)) so_far
    ∙ (split_or old (in_raster r i j) (list_any (is_point (corner_of r i j)) points) (is_point (corner_of r i j) p)
    ∙ ap (λ b. old || (in_raster r i j && b)) (ap (λ b. list_any (is_point (corner_of r i j)) points || b) (sym (no_or (is_point (corner_of r i j) p))) ∙ sym (any_append (is_point (corner_of r i j)) points (p ∷ [])))))

-- and what more points fill
pub stands_both : (r : Lattice) (points more : List Point) (i j : ℤ) (old new next : Bool) → new ≡ old || stands_at r points i j → next ≡ new || stands_at r more i j → next ≡ old || stands_at r (points ++ more) i j
stands_both r points more i j old new next so_far this =
    this ∙ (ap (λ b. b || stands_at r more i j) so_far
    ∙ (split_or old (in_raster r i j) (list_any (is_point (corner_of r i j)) points) (list_any (is_point (corner_of r i j)) more)
    ∙ ap (λ b. old || (in_raster r i j && b)) (sym (any_append (is_point (corner_of r i j)) points more))))

-- ---- the single references of a link

pub far_abs : (z : ℤ) → unsigned_abs z ≤ 1 * 68719476736 → IsFar z
far_abs z h = record { least = omega (arith, ints, h); most = omega (arith, ints, h) }

pub one_origin_more : (l : Link) (n m : ℕ) → m ≡ n + 1 → map origin_of (map (single l) (range_with_len 0 m)) ≡ map origin_of (map (single l) (range_with_len 0 n)) ++ origin_of (single l n) ∷ []
one_origin_more l n m e =
    ap (λ k. map origin_of (map (single l) (range_with_len 0 k))) e
    ∙ (ap (map origin_of) (map-range_with_len_more (single l) 0 n n (none n)) ∙ map-append origin_of (map (single l) (range_with_len 0 n)) (single l n ∷ []))
  where
    none : (n : ℕ) → 0 + n ≡ n
    none n = omega arith

placed_x : (b : Bool) (n : ℕ) (x y : ℤ) → (placed b n x y).x ≡ x
placed_x b zero x y = refl
placed_x b (suc zero) x y = refl
placed_x b (suc (suc zero)) x y = refl
placed_x b (suc (suc (suc n))) x y = refl

placed_y : (b : Bool) (n : ℕ) (x y : ℤ) → (placed b n x y).y ≡ y
placed_y b zero x y = refl
placed_y b (suc zero) x y = refl
placed_y b (suc (suc zero)) x y = refl
placed_y b (suc (suc (suc n))) x y = refl

same_point : (p q : Point) → p.x ≡ q.x → p.y ≡ q.y → p ≡ q
same_point p q x y = λ k. record { x = x k; y = y k }

origin_placed : (t : Transform) (p : Point) → origin_of (placement_of t p) ≡ p
origin_placed t p = same_point (origin_of (placement_of t p)) p (placed_x _ _ p.x p.y) (placed_y _ _ p.x p.y)

all_origins : (t : Transform) (f : ℕ → Point) (ks : List ℕ) → map origin_of (map (λ k. placement_of t (f k)) ks) ≡ map f ks
all_origins t f [] = refl
all_origins t f (k ∷ ks) = ap (λ p. p ∷ map origin_of (map (λ k. placement_of t (f k)) ks)) (origin_placed t (f k)) ∙ ap (λ ps. f k ∷ ps) (all_origins t f ks)

-- what the links of an element say, and what its shape does
pub reference_stands : (cell : List ℕ) (t : Transform) (p : Point) (ps : List Placement) → reference_fault (reference cell t p) ≡ None → ps ≡ placements_of (reference cell t p) → map origin_of ps ≡ corners_of (reference cell t p)
reference_stands cell t p ps fine is = ap (map origin_of) is ∙ by (is_bad_transform t) fine
  where
    by : (b : Bool) → (if b then Some BadTransform else None) ≡ None → origin_of (placement_of t p) ∷ [] ≡ (if b then [] else p ∷ [])
    by true h = absurd (cc h)
    by false h = ap (λ q. q ∷ []) (origin_placed t p)

pub reference_falls : (cell : List ℕ) (t : Transform) (p : Point) (f : FlattenError) → reference_fault (reference cell t p) ≡ Some f → corners_of (reference cell t p) ≡ []
reference_falls cell t p f bad = by (is_bad_transform t) bad
  where
    by : (b : Bool) → (if b then Some BadTransform else None) ≡ Some f → (if b then [] else p ∷ []) ≡ []
    by true h = refl
    by false h = absurd (cc h)

pub array_stands : (cell : List ℕ) (t : Transform) (m n : ℕ) (points : List Point) (ps : List Placement) → array_fault t m n points ≡ None → ps ≡ array_placements t m n points → map origin_of ps ≡ corners_of (array cell t m n points)
array_stands cell t m n points ps fine is = ap (map origin_of) is ∙ by (is_bad_transform t) (is_bad_array m n points) fine
  where
    by : (b c : Bool) → (if b then Some BadTransform else if c then Some BadArray else None) ≡ None → map origin_of (array_placements t m n points) ≡ (if b then [] else if c then [] else map (λ k. grid_point points m n (k % m) (k / m)) (range_with_len 0 (m * n)))
    by true c h = absurd (cc h)
    by false true h = absurd (cc h)
    by false false h = all_origins t (λ k. grid_point points m n (k % m) (k / m)) (range_with_len 0 (m * n))

pub array_falls : (cell : List ℕ) (t : Transform) (m n : ℕ) (points : List Point) (f : FlattenError) → array_fault t m n points ≡ Some f → corners_of (array cell t m n points) ≡ []
array_falls cell t m n points f bad = by (is_bad_transform t) (is_bad_array m n points) bad
  where
    by : (b c : Bool) → (if b then Some BadTransform else if c then Some BadArray else None) ≡ Some f → (if b then [] else if c then [] else map (λ k. grid_point points m n (k % m) (k / m)) (range_with_len 0 (m * n))) ≡ []
    by true c h = refl
    by false true h = refl
    by false false h = absurd (cc h)

-- ---- elements one after another

pub one_element_more : (es : List Element) (k : ℕ) (e : Element) → k < length es → e ≡ get_or es k e
    → flat_map corners_of (map shape_of (take (k + 1) es)) ≡ flat_map corners_of (map shape_of (take k es)) ++ corners_of (shape_of e)
one_element_more es k e within is =
    let more : take (k + 1) es ≡ take k es ++ e ∷ [] = take_more es k e within ∙ ap (λ x. take k es ++ x ∷ []) (sym is) in
    ap (λ xs. flat_map corners_of (map shape_of xs)) more
    ∙ (ap (flat_map corners_of) (map-append shape_of (take k es) (e ∷ []))
    ∙ (flat_map-append corners_of (map shape_of (take k es)) (shape_of e ∷ []) ∙ ap (λ t. flat_map corners_of (map shape_of (take k es)) ++ t) (append-nil (corners_of (shape_of e)))))

-- and cells

abbrev shapes_in : List Cell → List Shape
shapes_in cs = flat_map (λ (c : Cell). c.shapes) cs

cell_more : (cs : List Cell) (k : ℕ) → k < length cs → shapes_in (take (suc k) cs) ≡ shapes_in (take k cs) ++ elements_at cs k
cell_more [] k lt = absurd (omega (arith, lt))
cell_more (c ∷ cs) zero lt = append-nil c.shapes
cell_more (c ∷ cs) (suc k) lt =
    ap (λ t. c.shapes ++ t) (cell_more cs k (omega (arith, lt))) ∙ sym (append_assoc c.shapes (shapes_in (take k cs)) (elements_at cs k))

pub one_cell_more : (cs : List Cell) (k m : ℕ) → m ≡ k + 1 → k < length cs
    → flat_map corners_of (flat_map (λ (c : Cell). c.shapes) (take m cs)) ≡ flat_map corners_of (flat_map (λ (c : Cell). c.shapes) (take k cs)) ++ flat_map corners_of (elements_at cs k)
one_cell_more cs k m e lt =
    let one : m ≡ suc k = e ∙ up k in
    ap (λ n. flat_map corners_of (shapes_in (take n cs))) one
    ∙ (ap (flat_map corners_of) (cell_more cs k lt) ∙ flat_map-append corners_of (shapes_in (take k cs)) (elements_at cs k))
  where
    up : (k : ℕ) → k + 1 ≡ suc k
    up k = omega arith
