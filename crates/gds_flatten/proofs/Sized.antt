-- How far what a cell draws can go: each reference of a chain adds at most 2^36.
use Rattle.std.proofs.Common.{◌≡◌, ℕ, zero, suc, ◌*◌, ◌<◌, ◌≤◌, ◌⊎◌, inl, inr, ◌%◌, ◌/◌, ℤ, pos, negsuc, ◌+ℤ◌, ◌-ℤ◌, ◌*ℤ◌, ◌≤ℤ◌, Bool, true, false, cond, List, [], ◌∷◌, map, refl, sym, subst, arith}
use Rattle.std.specs.Prelude.{Option, Some, None, slice_get, unsigned_abs}
use Rattle.std.specs.List.{flat_map}
use Rattle.std.proofs.lemmas.Int.{ints, clamps}
use Rattle.std.proofs.lemmas.Grind.{flat_map-append}
use Rattle.std.proofs.lemmas.Nat.{mod_below}
use Rattle.std.proofs.Math.Nat.{mul-le-mul}
use Rattle.gds_grammar.specs.Values.{shape_of}
use Rattle.gds_shape.specs.declared.bounds.Bounds.{Bounds}
use Rattle.gds_shape.specs.Extents.{IsNear}
use Rattle.gds_cells.specs.declared.cell.Cell.{Cell}
use Rattle.gds_cells.specs.declared.link.Link.{Link}
use Rattle.gds_cells.specs.declared.shape.Shape.{Shape}
use Rattle.gds_cells.specs.declared.placement.Placement.{Placement}
use Rattle.gds_cells.specs.Copies.{Copy, own_copy, carry_copy, copies}
use Rattle.gds_cells.specs.Placements.{carried_bounds}
use Rattle.gds_cells.specs.Links.{single}
use Rattle.gds_cells.specs.steps.Built.{own_of}
use Rattle.gds_cells.specs.steps.Filled.{rects_in, extent_in}
use Rattle.gds_flatten.specs.steps.Framing.{FitAll, square, links_draw}
use Rattle.gds_cells.specs.steps.Prepared.{IsOrdered, IsPrepared, IsPart}
use Rattle.gds_cells.specs.steps.Ranges.{IsWithin}
use Rattle.gds_cells.specs.steps.Walks.{shapes_in, singles_of, hierarchy}
use Rattle.gds_cells.proofs.Stepping.{row_below}
use Rattle.gds_flatten.proofs.Tight.{none_fit, fit_joins, shape_tight, part_of_part, window, carry_forth, link_fits, link_draws, back_fits}

-- ---- shapes

near_square : (m : ℕ) (b : Bounds) → IsNear b → IsPart (square (suc m)) b
near_square m b n = record {
  left = low m b.left n.left;
  bottom = low m b.bottom n.bottom;
  right = high m b.right n.right;
  top = high m b.top n.top;
} where
  low : (m : ℕ) (z : ℤ) → negsuc 8589934591 ≤ℤ z → (pos 0 -ℤ pos (suc m * 68719476736)) ≤ℤ z
  low m z h = omega (arith, ints, clamps, h)

  high : (m : ℕ) (z : ℤ) → z ≤ℤ pos 8589934592 → z ≤ℤ pos (suc m * 68719476736)
  high m z h = omega (arith, ints, clamps, h)

shape_sized : (m : ℕ) (o : Option Bounds) (s : Shape) → extent_in s.filled ≡ o → FitAll (square (suc m)) (own_copy (shape_of s.element.now) ∷ [])
shape_sized m None s is = (shape_tight (shape_of s.element.now) (rects_in s.filled) None (subst (IsPrepared (shape_of s.element.now) (rects_in s.filled)) is s.prepared) (square (suc m))).0 tt
shape_sized m (Some b) s is =
    let prepared = subst (IsPrepared (shape_of s.element.now) (rects_in s.filled)) is s.prepared in
    (shape_tight (shape_of s.element.now) (rects_in s.filled) (Some b) prepared (square (suc m))).0 (near_square m b (prepared.drawn b refl).near)

shapes_sized : (m : ℕ) (shapes : List Shape) → FitAll (square (suc m)) (map own_copy (own_of shapes))
shapes_sized m [] = none_fit (square (suc m))
shapes_sized m (s ∷ shapes) =
    fit_joins (square (suc m)) (own_copy (shape_of s.element.now) ∷ []) (map own_copy (own_of shapes)) (shape_sized m (extent_in s.filled) s refl) (shapes_sized m shapes)

-- ---- links

steps_size : (c m n : ℕ) (d : ℤ) → c ≤ m → m * unsigned_abs d ≤ n → unsigned_abs (pos c *ℤ d) ≤ n
steps_size c m n (pos q) le h =
    let same : q ≤ q = omega arith in
    let few : c * q ≤ m * q = mul-le-mul le same in grind (arith, ints, few, h)
steps_size c m n (negsuc q) le h =
    let same : suc q ≤ suc q = omega arith in
    let few : c * suc q ≤ m * suc q = mul-le-mul le same in grind (arith, ints, few, h)

sum_near : (x u v : ℤ) → unsigned_abs x ≤ 2147483648 → unsigned_abs u ≤ 4294967296 → unsigned_abs v ≤ 4294967296 → unsigned_abs ((x +ℤ u) +ℤ v) ≤ 1 * 68719476736
sum_near x u v h k l = omega (arith, ints, clamps, h, k, l)

pub single_near : (l : Link) (k : ℕ) → k < l.columns * l.rows → IsWithin 1 (single l k)
single_near l k lt =
    let g = l.grid in
    let c = mod_below k l.columns g.some_columns in
    let r = row_below k l.columns l.rows g.some_columns lt in
    let few : k % l.columns ≤ l.columns = omega (arith, c) in
    let low : k / l.columns ≤ l.rows = omega (arith, r) in
    record {
      x = sum_near l.placement.x (pos (k % l.columns) *ℤ l.column_step.x) (pos (k / l.columns) *ℤ l.row_step.x) g.first_x
          (steps_size (k % l.columns) l.columns 4294967296 l.column_step.x few g.columns_x) (steps_size (k / l.columns) l.rows 4294967296 l.row_step.x low g.rows_x);
      y = sum_near l.placement.y (pos (k % l.columns) *ℤ l.column_step.y) (pos (k / l.columns) *ℤ l.row_step.y) g.first_y
          (steps_size (k % l.columns) l.columns 4294967296 l.column_step.y few g.columns_y) (steps_size (k / l.columns) l.rows 4294967296 l.row_step.y low g.rows_y);
    }

record Wider (f : Bool) (m : ℕ) (z : ℤ) : Type 0 where
  low : cond f (z -ℤ pos (suc m * 68719476736)) ((pos 0 -ℤ pos (suc m * 68719476736)) -ℤ z) ≤ℤ (pos 0 -ℤ pos (m * 68719476736))
  high : pos (m * 68719476736) ≤ℤ cond f (z -ℤ (pos 0 -ℤ pos (suc m * 68719476736))) (pos (suc m * 68719476736) -ℤ z)

wider : (f : Bool) (m : ℕ) (z : ℤ) → unsigned_abs z ≤ 1 * 68719476736 → Wider f m z
wider true m z h = record { low = omega (arith, ints, clamps, h); high = omega (arith, ints, clamps, h) }
wider false m z h = record { low = omega (arith, ints, clamps, h); high = omega (arith, ints, clamps, h) }

window_square : (m : ℕ) (p : Placement) → IsWithin 1 p → IsPart (window p (square (suc m))) (square m)
window_square m p w = by p.swapped where
  u : Wider p.flip_x m p.x
  u = wider p.flip_x m p.x w.x

  v : Wider p.flip_y m p.y
  v = wider p.flip_y m p.y w.y

  by : (s : Bool) → IsPart (window (record p { swapped = s }) (square (suc m))) (square m)
  by true = record { left = v.low; bottom = u.low; right = v.high; top = u.high }
  by false = record { left = u.low; bottom = v.low; right = u.high; top = v.high }

all_part : (v w : Bounds) (cs : List Copy) → IsPart w v → FitAll v cs → FitAll w cs
all_part v w cs h all = λ k d lt j e small. part_of_part w v _ h (all k d lt j e small)

carry_sized : (m : ℕ) (p : Placement) (cs : List Copy) → IsWithin 1 p → FitAll (square m) cs → FitAll (square (suc m)) (map (carry_copy p) cs)
carry_sized m p cs w all = carry_forth p (square (suc m)) cs (all_part (square m) (window p (square (suc m))) cs (window_square m p w) all)

link_sized : (m : ℕ) (below : ℕ → List Copy) (l : Link) → FitAll (square m) (below l.cell) → FitAll (square (suc m)) (link_draws below l)
link_sized m below l all = (link_fits (square (suc m)) below l).0 (λ k lt. carry_sized m (single l k) (below l.cell) (single_near l k lt) all)

links_sized : (m : ℕ) (below : ℕ → List Copy) (links : List Link) → ((c : ℕ) → FitAll (square m) (below c)) → FitAll (square (suc m)) (links_draw below links)
links_sized m below [] all = none_fit (square (suc m))
links_sized m below (l ∷ links) all =
    subst (FitAll (square (suc m))) (sym (flat_map-append (λ (s : ℕ × Placement). map (carry_copy s.1) (below s.0)) (singles_of l) (flat_map singles_of links)))
    (fit_joins (square (suc m)) (link_draws below l) (links_draw below links) (link_sized m below l (all l.cell)) (links_sized m below links all))

-- ---- cells

pub copies_sized : (cells : List Cell) (n c : ℕ) → FitAll (square (suc n)) (copies (hierarchy cells) n c)
unfolding copies
copies_sized cells zero c = none_fit (square 1)
copies_sized cells (suc n) c = by (slice_get cells c) refl (λ d. copies_sized cells n d) where
  by : (o : Option Cell) → slice_get cells c ≡ o → ((d : ℕ) → FitAll (square (suc n)) (copies (hierarchy cells) n d)) → FitAll (square (suc (suc n))) (copies (hierarchy cells) (suc n) c)
  by None is below = rw is (none_fit (square (suc (suc n))))
  by (Some cell) is below = rw is (fit_joins (square (suc (suc n))) (map own_copy (own_of (shapes_in cell))) (links_draw (copies (hierarchy cells) n) cell.links.items)
      (shapes_sized (suc n) (shapes_in cell)) (links_sized (suc n) (copies (hierarchy cells) n) cell.links.items below))

-- ---- closeness

pub record AreClose (b : Bounds) : Type 0 where
  pub left : unsigned_abs b.left ≤ 35184372088832
  pub bottom : unsigned_abs b.bottom ≤ 35184372088832
  pub right : unsigned_abs b.right ≤ 35184372088832
  pub top : unsigned_abs b.top ≤ 35184372088832

pub square_close : (m : ℕ) (b : Bounds) → m ≤ 512 → b.left ≤ℤ b.right → b.bottom ≤ℤ b.top → IsPart (square m) b → AreClose b
square_close m b few wide tall h = record {
  left = first m b.left b.right few wide h.left h.right;
  bottom = first m b.bottom b.top few tall h.bottom h.top;
  right = last m b.left b.right few wide h.left h.right;
  top = last m b.bottom b.top few tall h.bottom h.top;
} where
  first : (m : ℕ) (a c : ℤ) → m ≤ 512 → a ≤ℤ c → (pos 0 -ℤ pos (m * 68719476736)) ≤ℤ a → c ≤ℤ pos (m * 68719476736) → unsigned_abs a ≤ 35184372088832
  first m a c few o h k = omega (arith, ints, clamps, few, o, h, k)

  last : (m : ℕ) (a c : ℤ) → m ≤ 512 → a ≤ℤ c → (pos 0 -ℤ pos (m * 68719476736)) ≤ℤ a → c ≤ℤ pos (m * 68719476736) → unsigned_abs c ≤ 35184372088832
  last m a c few o h k = omega (arith, ints, clamps, few, o, h, k)

-- carried by a single reference, it goes at most so much farther
pub carried_sized : (m : ℕ) (l : Link) (k : ℕ) (b : Bounds) → k < l.columns * l.rows → IsOrdered b → IsPart (square m) b → IsPart (square (suc m)) (carried_bounds (single l k) b)
carried_sized m l k b lt o h =
    (back_fits (single l k) (square (suc m)) b o).1 (part_of_part (window (single l k) (square (suc m))) (square m) b (window_square m (single l k) (single_near l k lt)) h)

pub or_right : {A B C : Type 0} → A ⊎ B → (B → C) → A ⊎ C
or_right (inl a) f = inl a
or_right (inr b) f = inr (f b)
