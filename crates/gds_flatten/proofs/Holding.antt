-- Extents that hold what cells draw.
use Rattle.std.proofs.Common.{◌≡◌, ℕ, zero, suc, ◌+◌, ◌-◌, ◌*◌, ◌<◌, ◌≤◌, ℤ, pos, ◌-ℤ◌, ◌≤ℤ◌, Bool, true, false, ◌&&◌, ◌||◌, List, [], ◌∷◌, ◌++◌, length, map, take, get_or, refl, sym, ap, subst, arith, ◌∙◌}
use Rattle.std.specs.Prelude.{Option, Some, None, unsigned_abs}
use Rattle.std.specs.List.{flat_map, range_with_len}
use Rattle.std.specs.Int.{int_min, int_max}
use Rattle.std.specs.Vec.{vec_items}
use Rattle.std.specs.Global.{Vec}
use Rattle.std.proofs.lemmas.Int.{ints, clamps}
use Rattle.std.proofs.lemmas.List.{take_more, map-append}
use Rattle.std.proofs.lemmas.List.Folds.{list_any_more, list_any-append}
use Rattle.std.proofs.lemmas.Grind.{flat_map-append}
use Rattle.fill_base.specs.declared.rect.Rect.{Rect}
use Rattle.fill_base.specs.Squares.{squares}
use Rattle.fill_region.specs.Squares.{covered}
use Rattle.gds_grammar.specs.Values.{shape_of, Shape as Element}
use Rattle.gds_shape.specs.declared.bounds.Bounds.{Bounds}
use Rattle.gds_shape.specs.Extents.{joined, IsNear}
use Rattle.gds_shape.proofs.Inside.{one_inside}
use Rattle.gds_cells.specs.declared.link.Link.{Link}
use Rattle.gds_cells.specs.declared.shape.Shape.{Shape}
use Rattle.gds_cells.specs.declared.placement.Placement.{Placement}
use Rattle.gds_cells.specs.Placements.{back_x, back_y, carried, carried_bounds, composed, still}
use Rattle.gds_cells.specs.Copies.{Copy, own_copy, carry_copy, drawn}
use Rattle.gds_cells.specs.Links.{single}
use Rattle.gds_cells.specs.Shapes.{covers_of}
use Rattle.gds_flatten.specs.Frames.{meets}
use Rattle.gds_flatten.specs.steps.Framing.{IsUnseen, IsAround, IsFine, IsFineIf, IsHeld, links_draw}
use Rattle.gds_cells.specs.steps.Prepared.{IsOrdered, IsPrepared, IsPart}
use Rattle.gds_cells.specs.steps.Built.{own_of}
use Rattle.gds_cells.specs.steps.Walks.{singles_of}
use Rattle.gds_cells.proofs.Carrying.{bounds_back}
use Rattle.gds_flatten.proofs.Drawing.{drawn_joins, range_more, carried_twice}
use Rattle.gds_cells.proofs.Pointing.{near_fours}
use Rattle.gds_flatten.proofs.Seen.{drawn_carried, held_unseen, none_unseen, both_unseen}

-- ---- rectangles within a frame

pub clip_next : (f : Rect) (rects : List Rect) (k : ℕ) (d : Rect) (before new old : Bool) (x y : ℤ) → k < length rects → d ≡ get_or rects k d
    → new ≡ (old || (squares d x y && squares f x y)) → old ≡ (before || (covered (take k rects) x y && squares f x y))
    → new ≡ (before || (covered (take (k + 1) rects) x y && squares f x y))
clip_next f rects k d before new old x y lt is e so_far =
    e ∙ rw (so_far, list_any_more (λ r. squares r x y) rects k d lt, sym is) (stretch before (covered (take k rects) x y) (squares d x y) (squares f x y))
  where
    stretch : (z a b c : Bool) → ((z || (a && c)) || (b && c)) ≡ (z || ((a || b) && c))
    stretch z a b c = grind arith

pub parts_next : (f : Rect) (parts : List (Vec Rect)) (k : ℕ) (d : Vec Rect) (new old : Bool) (x y : ℤ) → k < length parts → d ≡ get_or parts k d
    → new ≡ (old || (covered d.items x y && squares f x y)) → old ≡ (covered (flat_map vec_items (take k parts)) x y && squares f x y)
    → new ≡ (covered (flat_map vec_items (take (k + 1) parts)) x y && squares f x y)
parts_next f parts k d new old x y lt is e so_far =
    let more : flat_map vec_items (take (k + 1) parts) ≡ flat_map vec_items (take k parts) ++ d.items =
    ap (flat_map vec_items) (take_more parts k d lt ∙ ap (λ s. take k parts ++ s ∷ []) (sym is))
    ∙ flat_map-append vec_items (take k parts) (d ∷ []) ∙ ap (λ xs. flat_map vec_items (take k parts) ++ xs) (append_none d.items) in
    e ∙ rw (so_far, more, list_any-append (λ r. squares r x y) (flat_map vec_items (take k parts)) d.items) (stretch (covered (flat_map vec_items (take k parts)) x y) (covered d.items x y) (squares f x y))
  where
    append_none : {X : Type 0} (xs : List X) → xs ++ [] ≡ xs
    append_none [] = refl
    append_none (x ∷ xs) = ap (λ ys. x ∷ ys) (append_none xs)

    stretch : (a b c : Bool) → ((a && c) || (b && c)) ≡ ((a || b) && c)
    stretch a b c = grind arith

-- ---- the extent around both

fine_near : (b : Bounds) → IsNear b → IsFine b
fine_near b n = let f = near_fours b n in record { ordered = record { wide = n.wide; tall = n.tall }; left = f.left; bottom = f.bottom; right = f.right; top = f.top }

pub fine_joined : (a b : Bounds) → IsFine a → IsFine b → IsFine (joined a b)
fine_joined a b f g = record {
  ordered = record { wide = order a.left a.right b.left b.right f.ordered.wide; tall = order a.bottom a.top b.bottom b.top f.ordered.tall };
  left = least a.left b.left f.left g.left;
  bottom = least a.bottom b.bottom f.bottom g.bottom;
  right = most a.right b.right f.right g.right;
  top = most a.top b.top f.top g.top;
} where
  order : (a c b d : ℤ) → a ≤ℤ c → int_min a b ≤ℤ int_max c d
  order a c b d h = omega (arith, ints, clamps)

  least : (a b : ℤ) → unsigned_abs a ≤ 35184372088832 → unsigned_abs b ≤ 35184372088832 → unsigned_abs (int_min a b) ≤ 35184372088832
  least a b h k = omega (arith, ints, clamps)

  most : (a b : ℤ) → unsigned_abs a ≤ 35184372088832 → unsigned_abs b ≤ 35184372088832 → unsigned_abs (int_max a b) ≤ 35184372088832
  most a b h k = omega (arith, ints, clamps)

pub first_around : (a b : Bounds) → IsAround (Some (joined a b)) (Some a)
first_around a b x y h = one_inside (joined a b) a x y (omega (arith, ints, clamps)) (omega (arith, ints, clamps)) (omega (arith, ints, clamps)) (omega (arith, ints, clamps)) h

pub second_around : (a b : Bounds) → IsAround (Some (joined a b)) (Some b)
second_around a b x y h = one_inside (joined a b) b x y (omega (arith, ints, clamps)) (omega (arith, ints, clamps)) (omega (arith, ints, clamps)) (omega (arith, ints, clamps)) h

-- ---- what is held

pub held_both : (cs ds : List Copy) (o p q : Option Bounds) → IsHeld cs o → IsHeld ds p → IsAround q o → IsAround q p → IsHeld (cs ++ ds) q
held_both cs ds o p q h k first second x y seen =
    either (drawn cs x y) (drawn ds x y) (sym (drawn_joins cs ds x y) ∙ seen) (λ s. first x y (h x y s)) (λ s. second x y (k x y s))
  where
    either : {P : Type 0} (a b : Bool) → (a || b) ≡ true → (a ≡ true → P) → (b ≡ true → P) → P
    either true b e f g = f refl
    either false b e f g = g e

pub held_none : (o : Option Bounds) → IsHeld [] o
held_none o x y seen = absurd cc

-- ---- shapes

still_back : (s : ℤ → ℤ → Bool) (x y : ℤ) → carried still s x y ≡ s x y
still_back s x y = ap (λ a. s a (y -ℤ pos 0)) (less x) ∙ ap (s x) (less y) where
  less : (z : ℤ) → z -ℤ pos 0 ≡ z
  less z = omega (arith, ints, clamps)

or_none : (b : Bool) → (b || false) ≡ b
or_none true = refl
or_none false = refl

pub shape_held : (e : Element) (pieces : List Rect) (o : Option Bounds) → IsPrepared e pieces o → IsHeld (own_copy e ∷ []) o
shape_held e pieces None prepared x y seen =
    let there = sym (or_none (carried still (covers_of e) x y) ∙ still_back (covers_of e) x y) ∙ seen in
    let nothing = prepared.empty refl x y in
    let both = sym there ∙ nothing in absurd cc
shape_held e pieces (Some b) prepared x y seen =
    (prepared.drawn b refl).inside x y (sym (or_none (carried still (covers_of e) x y) ∙ still_back (covers_of e) x y) ∙ seen)

pub shape_fine : (e : Element) (pieces : List Rect) (o : Option Bounds) → IsPrepared e pieces o → IsFineIf o
shape_fine e pieces None prepared = λ no. no
shape_fine e pieces (Some b) prepared = fine_near b (prepared.drawn b refl).near

abbrev drawn_of : List Shape → List Copy
drawn_of shapes = map own_copy (own_of shapes)

pub shapes_more : (shapes : List Shape) (k : ℕ) (d : Shape) → k < length shapes → d ≡ get_or shapes k d
    → map own_copy (own_of (take (k + 1) shapes)) ≡ map own_copy (own_of (take k shapes)) ++ own_copy (shape_of d.element.now) ∷ []
shapes_more shapes k d lt is =
    ap drawn_of (take_more shapes k d lt ∙ ap (λ s. take k shapes ++ s ∷ []) (sym is))
    ∙ ap (map own_copy) (map-append (λ (s : Shape). shape_of s.element.now) (take k shapes) (d ∷ []))
    ∙ map-append own_copy (own_of (take k shapes)) (shape_of d.element.now ∷ [])

pub chunks_more : (chunks : List (Vec Shape)) (k : ℕ) (d : Vec Shape) → k < length chunks → d ≡ get_or chunks k d
    → map own_copy (own_of (flat_map vec_items (take (k + 1) chunks))) ≡ map own_copy (own_of (flat_map vec_items (take k chunks))) ++ map own_copy (own_of d.items)
chunks_more chunks k d lt is =
    ap (λ rs. drawn_of (flat_map vec_items rs)) (take_more chunks k d lt ∙ ap (λ s. take k chunks ++ s ∷ []) (sym is))
    ∙ ap drawn_of (flat_map-append vec_items (take k chunks) (d ∷ []) ∙ ap (λ xs. flat_map vec_items (take k chunks) ++ xs) (append_none d.items))
    ∙ ap (map own_copy) (map-append (λ (s : Shape). shape_of s.element.now) (flat_map vec_items (take k chunks)) d.items)
    ∙ map-append own_copy (own_of (flat_map vec_items (take k chunks))) (own_of d.items)
  where
    append_none : {X : Type 0} (xs : List X) → xs ++ [] ≡ xs
    append_none [] = refl
    append_none (x ∷ xs) = ap (λ ys. x ∷ ys) (append_none xs)

-- ---- links

pub single_held : (at : Placement) (cs : List Copy) (b : Bounds) (o : Option Bounds) → IsFine b → IsHeld cs (Some b) → IsAround o (Some (carried_bounds at b)) → IsHeld (map (carry_copy at) cs) o
single_held at cs b o fine held around x y seen =
    around x y (bounds_back at b x y fine.ordered ∙ held (back_x at x y) (back_y at x y) (sym (drawn_carried at cs x y) ∙ seen))

pub nothing_single : (at : Placement) (cs : List Copy) (o : Option Bounds) → IsHeld cs None → IsHeld (map (carry_copy at) cs) o
nothing_single at cs o held x y seen =
    let none = held (back_x at x y) (back_y at x y) (sym (drawn_carried at cs x y) ∙ seen) in absurd cc

pub turns_drawn : (below : ℕ → List Copy) (l : Link) (ks : List ℕ)
    → flat_map (λ (s : ℕ × Placement). map (carry_copy s.1) (below s.0)) (map (λ p. (l.cell, p)) (map (single l) ks)) ≡ flat_map (λ k. map (carry_copy (single l k)) (below l.cell)) ks
turns_drawn below l [] = refl
turns_drawn below l (k ∷ ks) = ap (λ cs. map (carry_copy (single l k)) (below l.cell) ++ cs) (turns_drawn below l ks)

turns_held : (f : ℕ → List Copy) (o : Option Bounds) (n m : ℕ) → m ≤ n → ((k : ℕ) → k < n → IsHeld (f k) o) → IsHeld (flat_map f (range_with_len 0 m)) o
turns_held f o n zero le each = held_none o
turns_held f o n (suc m) le each =
    let one : m + 1 ≡ suc m = omega arith in
    subst (λ j. IsHeld (flat_map f (range_with_len 0 j)) o) one
    (subst (λ cs. IsHeld cs o) (sym (range_more f m))
    (held_both (flat_map f (range_with_len 0 m)) (f m) o o o (turns_held f o n m (omega (arith, le)) each) (each m (omega (arith, le))) (λ x y h. h) (λ x y h. h)))

pub link_held : (below : ℕ → List Copy) (l : Link) (o : Option Bounds) → ((k : ℕ) → k < l.columns * l.rows → IsHeld (map (carry_copy (single l k)) (below l.cell)) o)
    → IsHeld (flat_map (λ (s : ℕ × Placement). map (carry_copy s.1) (below s.0)) (singles_of l)) o
link_held below l o each =
    subst (λ cs. IsHeld cs o) (sym (turns_drawn below l (range_with_len 0 (l.columns * l.rows))))
    (turns_held (λ k. map (carry_copy (single l k)) (below l.cell)) o (l.columns * l.rows) (l.columns * l.rows) (omega arith) each)

pub links_more : (below : ℕ → List Copy) (links : List Link) (k : ℕ) (d : Link) → k < length links → d ≡ get_or links k d
    → links_draw below (take (k + 1) links) ≡ links_draw below (take k links) ++ flat_map (λ (s : ℕ × Placement). map (carry_copy s.1) (below s.0)) (singles_of d)
links_more below links k d lt is =
    ap (links_draw below) (take_more links k d lt ∙ ap (λ s. take k links ++ s ∷ []) (sym is))
    ∙ ap (flat_map (λ (s : ℕ × Placement). map (carry_copy s.1) (below s.0))) (flat_map-append singles_of (take k links) (d ∷ []) ∙ ap (λ xs. flat_map singles_of (take k links) ++ xs) (append_none (singles_of d)))
    ∙ flat_map-append (λ (s : ℕ × Placement). map (carry_copy s.1) (below s.0)) (flat_map singles_of (take k links)) (singles_of d)
  where
    append_none : {X : Type 0} (xs : List X) → xs ++ [] ≡ xs
    append_none [] = refl
    append_none (x ∷ xs) = ap (λ ys. x ∷ ys) (append_none xs)

-- ---- single references from one number up to another

-- none is seen where none of an extent is seen that holds them
pub single_unseen : (r : Rect) (at : Placement) (l : Link) (k : ℕ) (b all : Bounds) (cs : List Copy) → IsFine b → IsHeld cs (Some b) → IsPart all (carried_bounds (single l k) b)
    → IsOrdered all → meets r (carried_bounds at all) ≡ false → IsUnseen r (map (carry_copy (composed at (single l k))) cs)
single_unseen r at l k b all cs fine held part ordered apart =
    subst (IsUnseen r) (carried_twice at (single l k) cs)
    (held_unseen r at all (map (carry_copy (single l k)) cs) ordered
    (single_held (single l k) cs b (Some all) fine held (λ x y h. one_inside all (carried_bounds (single l k) b) x y part.left part.bottom part.right part.top h)) apart)

pub range_unseen : (r : Rect) (f : ℕ → List Copy) (a n : ℕ) → ((k : ℕ) → a ≤ k → k < a + n → IsUnseen r (f k)) → IsUnseen r (flat_map f (range_with_len a n))
range_unseen r f a zero each = none_unseen r
range_unseen r f a (suc n) each =
    both_unseen r (f a) (flat_map f (range_with_len (a + 1) n)) (each a (omega arith) (omega arith)) (range_unseen r f (a + 1) n (λ k ge lt. each k (omega (arith, ge)) (omega (arith, lt))))

-- two neighbouring ranges
range_joins : (a m n : ℕ) → range_with_len a (m + n) ≡ range_with_len a m ++ range_with_len (a + m) n
range_joins a zero n = let e : 0 + n ≡ n = omega arith in let z : a + 0 ≡ a = omega arith in ap (range_with_len a) e ∙ ap (λ b. range_with_len b n) (sym z)
range_joins a (suc m) n =
    let e : suc m + n ≡ suc (m + n) = omega arith in
    let s : (a + 1) + m ≡ a + suc m = omega arith in
    ap (range_with_len a) e ∙ ap (λ xs. a ∷ xs) (range_joins (a + 1) m n ∙ ap (λ b. range_with_len (a + 1) m ++ range_with_len b n) s)

pub turns_join : (f : ℕ → List Copy) (a m n : ℕ) → m ≤ n → flat_map f (range_with_len a n) ≡ flat_map f (range_with_len a m) ++ flat_map f (range_with_len (a + m) (n - m))
turns_join f a m n le =
    let whole : n ≡ m + (n - m) = omega (arith, le) in
    ap (λ k. flat_map f (range_with_len a k)) whole ∙ ap (flat_map f) (range_joins a m (n - m)) ∙ flat_map-append f (range_with_len a m) (range_with_len (a + m) (n - m))
