-- Shapes that are carried: they stay in range exactly where their extent does, and cover what they
-- covered.
use Rattle.std.proofs.Common.{◌≡◌, ℕ, zero, suc, ◌*◌, ◌≤◌, subst, ◌<◌, ℤ, pos, negsuc, ◌+ℤ◌, ◌-ℤ◌, ◌≤ℤ◌, ◌<ℤ◌, List, [], ◌∷◌, length, get_or, refl, arith, ◌∙◌, sym, Bool, true, false, cond, ◌&&◌, ◌||◌}
use Rattle.std.specs.Prelude.{All, int_lt, int_le, unsigned_abs}
use Rattle.std.specs.List.{list_any}
use Rattle.std.specs.Int.{int_min, int_max}
use Rattle.std.proofs.lemmas.Int.{ints, clamps}
use Rattle.std.proofs.lemmas.Bool.{and_parts, and_from}
use Rattle.fill_base.specs.declared.rect.Rect.{Rect}
use Rattle.fill_base.specs.Coordinates.{lowest, highest}
use Rattle.fill_base.specs.Squares.{squares}
use Rattle.fill_base.proofs.Signed.{read}
use Rattle.fill_region.specs.Squares.{covered}
use Rattle.gds_grammar.specs.Values.{Shape as Element}
use Rattle.gds_shape.specs.declared.bounds.Bounds.{Bounds}
use Rattle.gds_shape.specs.Paths.{in_bounds, AreInRange}
use Rattle.gds_shape.specs.Extents.{IsExtent, IsNarrow, IsNear, corner_move}
use Rattle.gds_cells.specs.declared.placement.Placement.{Placement}
use Rattle.gds_cells.specs.Placements.{back_x, back_y, carried, carried_bounds, composed, shift}
use Rattle.gds_cells.specs.Shapes.{covers_of, parts_of, StaysInRange}
use Rattle.gds_cells.specs.steps.Prepared.{edges_of, way_back, IsOrdered, IsDrawn, IsPart}
use Rattle.gds_cells.specs.steps.Ranges.{IsWithin}
use Rattle.gds_cells.proofs.Composing.{carried_together, point_together_x, point_together_y}
use Rattle.gds_cells.proofs.Carrying.{low, high, InRange, part_carried, rect_ordered}

le_self : (a : ℤ) → a ≤ℤ a
le_self a = omega (arith, ints, clamps)

-- ---- the extent is in range where all parts are

-- along one axis, where g and h are the two ends of a part
axis_all : (f : Bool) (m a b : ℤ) (g h : Bounds → ℤ) (parts : List Bounds) → a ≤ℤ b
    → ((z : ℤ) → All (λ c. z ≤ℤ g c) parts → z ≤ℤ a) → ((z : ℤ) → All (λ c. h c ≤ℤ z) parts → b ≤ℤ z)
    → All (λ c. InRange f (g c) (h c) m) parts → InRange f a b m
axis_all false m a b g h parts wide least most each =
    let from : (lowest -ℤ m) ≤ℤ a = least (lowest -ℤ m) (λ k d lt. begins (g (get_or parts k d)) (h (get_or parts k d)) (each k d lt)) in
    let to : b ≤ℤ (highest -ℤ m) = most (highest -ℤ m) (λ k d lt. ends (g (get_or parts k d)) (h (get_or parts k d)) (each k d lt)) in
    record {
      least = record { least = omega (arith, ints, clamps); most = omega (arith, ints, clamps) };
      most = record { least = omega (arith, ints, clamps); most = omega (arith, ints, clamps) };
    }
  where
    begins : (c d : ℤ) → InRange false c d m → (lowest -ℤ m) ≤ℤ c
    begins c d r = omega (arith, ints, clamps, r.least.least)

    ends : (c d : ℤ) → InRange false c d m → d ≤ℤ (highest -ℤ m)
    ends c d r = omega (arith, ints, clamps, r.most.most)
axis_all true m a b g h parts wide least most each =
    let from : (m -ℤ highest) ≤ℤ a = least (m -ℤ highest) (λ k d lt. begins (g (get_or parts k d)) (h (get_or parts k d)) (each k d lt)) in
    let to : b ≤ℤ (m -ℤ lowest) = most (m -ℤ lowest) (λ k d lt. ends (g (get_or parts k d)) (h (get_or parts k d)) (each k d lt)) in
    record {
      least = record { least = omega (arith, ints, clamps); most = omega (arith, ints, clamps) };
      most = record { least = omega (arith, ints, clamps); most = omega (arith, ints, clamps) };
    }
  where
    begins : (c d : ℤ) → InRange true c d m → (m -ℤ highest) ≤ℤ c
    begins c d r = omega (arith, ints, clamps, r.most.most)

    ends : (c d : ℤ) → InRange true c d m → d ≤ℤ (m -ℤ lowest)
    ends c d r = omega (arith, ints, clamps, r.least.least)

-- a rectangle carried, whether or not the coordinates change places
abbrev laid : Bool → Bool → Bool → ℤ → ℤ → Bounds → Bounds
laid s f g m n b = record {
  left = low f (cond s b.bottom b.left) (cond s b.top b.right) m;
  bottom = low g (cond s b.left b.bottom) (cond s b.right b.top) n;
  right = high f (cond s b.bottom b.left) (cond s b.top b.right) m;
  top = high g (cond s b.left b.bottom) (cond s b.right b.top) n;
}

extent_laid : (s f g : Bool) (m n : ℤ) (parts : List Bounds) (b : Bounds) → IsExtent parts b → IsOrdered b → All (λ c. AreInRange (laid s f g m n c)) parts → AreInRange (laid s f g m n b)
extent_laid true f g m n parts b e o all =
    let v = axis_all f m b.bottom b.top (λ c. c.bottom) (λ c. c.top) parts o.tall (λ z. (e.bottom z).1) (λ z. (e.top z).1) (λ k d lt. let r = all k d lt in record { least = r.0.0; most = r.1.0 }) in
    let w = axis_all g n b.left b.right (λ c. c.left) (λ c. c.right) parts o.wide (λ z. (e.left z).1) (λ z. (e.right z).1) (λ k d lt. let r = all k d lt in record { least = r.0.1; most = r.1.1 }) in
    ((v.least, w.least), (v.most, w.most))
extent_laid false f g m n parts b e o all =
    let v = axis_all f m b.left b.right (λ c. c.left) (λ c. c.right) parts o.wide (λ z. (e.left z).1) (λ z. (e.right z).1) (λ k d lt. let r = all k d lt in record { least = r.0.0; most = r.1.0 }) in
    let w = axis_all g n b.bottom b.top (λ c. c.bottom) (λ c. c.top) parts o.tall (λ z. (e.bottom z).1) (λ z. (e.top z).1) (λ k d lt. let r = all k d lt in record { least = r.0.1; most = r.1.1 }) in
    ((v.least, w.least), (v.most, w.most))

near_ordered : (b : Bounds) → IsNear b → IsOrdered b
near_ordered b n = record { wide = n.wide; tall = n.tall }

-- the extent passes the range only where a part does
pub extent_stays : (p : Placement) (element : Element) (pieces : List Rect) (b : Bounds) → IsDrawn element pieces b → StaysInRange p element → AreInRange (carried_bounds p b)
extent_stays p element pieces b drawn stays =
    extent_laid p.swapped p.flip_x p.flip_y p.x p.y (parts_of element) b drawn.extent (near_ordered b drawn.near) stays

part_of : (parts : List Bounds) (b : Bounds) (k : ℕ) (d : Bounds) → IsExtent parts b → k < length parts → IsPart b (get_or parts k d)
part_of parts b k d e lt = record {
  left = (e.left b.left).0 (le_self b.left) k d lt;
  bottom = (e.bottom b.bottom).0 (le_self b.bottom) k d lt;
  right = (e.right b.right).0 (le_self b.right) k d lt;
  top = (e.top b.top).0 (le_self b.top) k d lt;
}

pub parts_stay : (p : Placement) (element : Element) (pieces : List Rect) (b : Bounds) → IsDrawn element pieces b → AreInRange (carried_bounds p b) → StaysInRange p element
parts_stay p element pieces b drawn range = λ k d lt.
    part_carried p b (get_or (parts_of element) k d) (part_of (parts_of element) b k d drawn.extent lt) (drawn.ordered k d lt) range

-- ---- what's in range is no wider than all coordinates

axis_narrow : (f : Bool) (a b m : ℤ) → a ≤ℤ b → InRange f a b m → (b -ℤ a) ≤ℤ pos 2147483648
axis_narrow false a b m h r = omega (arith, ints, clamps, r.least.least, r.most.most)
axis_narrow true a b m h r = omega (arith, ints, clamps, r.least.least, r.most.most)

narrow_laid : (s f g : Bool) (m n : ℤ) (b : Bounds) → IsOrdered b → AreInRange (laid s f g m n b) → IsNarrow b
narrow_laid true f g m n b o r =
    (axis_narrow g b.left b.right n o.wide (record { least = r.0.1; most = r.1.1 }), axis_narrow f b.bottom b.top m o.tall (record { least = r.0.0; most = r.1.0 }))
narrow_laid false f g m n b o r =
    (axis_narrow f b.left b.right m o.wide (record { least = r.0.0; most = r.1.0 }), axis_narrow g b.bottom b.top n o.tall (record { least = r.0.1; most = r.1.1 }))

pub range_narrow : (p : Placement) (b : Bounds) → IsNear b → AreInRange (carried_bounds p b) → IsNarrow b
range_narrow p b near range = narrow_laid p.swapped p.flip_x p.flip_y p.x p.y b (near_ordered b near) range

-- ---- the pieces lie within the extent

abbrev shifted : ℤ → ℤ → Bounds → Bounds
shifted x y b = record { left = b.left +ℤ x; bottom = b.bottom +ℤ y; right = b.right +ℤ x; top = b.top +ℤ y }

carried_shifted : (p : Placement) (x y : ℤ) (b : Bounds) → carried_bounds p (shifted x y b) ≡ carried_bounds (composed p (shift x y)) b
carried_shifted p x y b = λ i. record {
  left = int_min (point_together_x p (shift x y) b.left b.bottom i) (point_together_x p (shift x y) b.right b.top i);
  bottom = int_min (point_together_y p (shift x y) b.left b.bottom i) (point_together_y p (shift x y) b.right b.top i);
  right = int_max (point_together_x p (shift x y) b.left b.bottom i) (point_together_x p (shift x y) b.right b.top i);
  top = int_max (point_together_y p (shift x y) b.left b.bottom i) (point_together_y p (shift x y) b.right b.top i);
}

any_at : (p : Rect → Bool) (rs : List Rect) (k : ℕ) (d : Rect) → k < length rs → p (get_or rs k d) ≡ true → list_any p rs ≡ true
any_at p [] k d lt h = absurd (omega arith)
any_at p (r ∷ rs) zero d lt h = rw h refl
any_at p (r ∷ rs) (suc k) d lt h = or_true (p r) (any_at p rs k d (omega arith) h)
  where
    or_true : (a : Bool) {b : Bool} → b ≡ true → (a || b) ≡ true
    or_true true h = refl
    or_true false h = h

first_square : (r : Rect) → squares r r.x1 r.y1 ≡ true
first_square r = and_from _ _ (begins r.x1 r.x2 r.wide) (begins r.y1 r.y2 r.tall)
  where
    begins : (a b : ℤ) → a <ℤ b → (int_le a a && int_lt a b) ≡ true
    begins a b h = and_from _ _ (le a) (lt a b h)
      where
        le : (a : ℤ) → int_le a a ≡ true
        le a = grind (arith, ints)

        lt : (a b : ℤ) → a <ℤ b → int_lt a b ≡ true
        lt a b h = grind (arith, ints)

last_square : (r : Rect) → squares r (r.x2 -ℤ pos 1) (r.y2 -ℤ pos 1) ≡ true
last_square r = and_from _ _ (ends r.x1 r.x2 r.wide) (ends r.y1 r.y2 r.tall)
  where
    ends : (a b : ℤ) → a <ℤ b → (int_le a (b -ℤ pos 1) && int_lt (b -ℤ pos 1) b) ≡ true
    ends a b h = and_from _ _ (le a b h) (lt b)
      where
        le : (a b : ℤ) → a <ℤ b → int_le a (b -ℤ pos 1) ≡ true
        le a b h = grind (arith, ints)

        lt : (b : ℤ) → int_lt (b -ℤ pos 1) b ≡ true
        lt b = grind (arith, ints)

record Holds (b : Bounds) (x y : ℤ) : Type 0 where
  left : b.left ≤ℤ x
  right : x <ℤ b.right
  bottom : b.bottom ≤ℤ y
  top : y <ℤ b.top

holds_is : (b : Bounds) (x y : ℤ) → in_bounds b x y ≡ true → Holds b x y
holds_is b x y h =
    let p = and_parts _ _ h in
    let u = and_parts _ _ p.0 in
    let v = and_parts _ _ p.1 in
    record { left = le b.left x u.0; right = lt x b.right u.1; bottom = le b.bottom y v.0; top = lt y b.top v.1 }
  where
    le : (a b : ℤ) → int_le a b ≡ true → a ≤ℤ b
    le a b h = grind (arith, ints)

    lt : (a b : ℤ) → int_lt a b ≡ true → a <ℤ b
    lt a b h = grind (arith, ints)

-- a square of a piece, where it came from, lies in the extent
square_held : (element : Element) (pieces : List Rect) (b : Bounds) (k : ℕ) (d : Rect) (x y : ℤ) → IsDrawn element pieces b → IsNarrow b → k < length pieces → squares (get_or pieces k d) x y ≡ true
    → Holds b (x -ℤ (corner_move b).x) (y -ℤ (corner_move b).y)
square_held element pieces b k d x y drawn narrow lt h =
    holds_is b _ _ (drawn.inside _ _ (sym (drawn.filled narrow x y) ∙ any_at (λ r. squares r x y) pieces k d lt h))

begins_there : (a x : ℤ) → a ≤ℤ (x -ℤ (lowest -ℤ a)) → a ≤ℤ (x +ℤ (a -ℤ lowest))
begins_there a x h = omega (arith, ints, clamps)

ends_there : (a b x : ℤ) → ((x -ℤ pos 1) -ℤ (lowest -ℤ a)) <ℤ b → (x +ℤ (a -ℤ lowest)) ≤ℤ b
ends_there a b x h = omega (arith, ints, clamps)

pub pieces_stay : (p : Placement) (element : Element) (pieces : List Rect) (b : Bounds) → IsDrawn element pieces b → AreInRange (carried_bounds p b)
    → All (λ r. AreInRange (carried_bounds (composed p (way_back b)) (edges_of r))) pieces
pieces_stay p element pieces b drawn range = λ k d lt.
    let r = get_or pieces k d in
    let narrow = range_narrow p b drawn.near range in
    let first = square_held element pieces b k d r.x1 r.y1 drawn narrow lt (first_square r) in
    let last = square_held element pieces b k d (r.x2 -ℤ pos 1) (r.y2 -ℤ pos 1) drawn narrow lt (last_square r) in
    let part : IsPart b (shifted (b.left -ℤ lowest) (b.bottom -ℤ lowest) (edges_of r)) = record {
      left = begins_there b.left r.x1 first.left;
      bottom = begins_there b.bottom r.y1 first.bottom;
      right = ends_there b.left b.right r.x2 last.right;
      top = ends_there b.bottom b.top r.y2 last.top;
    } in
    let ordered : IsOrdered (shifted (b.left -ℤ lowest) (b.bottom -ℤ lowest) (edges_of r)) = record {
      wide = along r.x1 r.x2 (b.left -ℤ lowest) (rect_ordered r).wide;
      tall = along r.y1 r.y2 (b.bottom -ℤ lowest) (rect_ordered r).tall;
    } in
    in_range (carried_shifted p (b.left -ℤ lowest) (b.bottom -ℤ lowest) (edges_of r)) (part_carried p b _ part ordered range)
  where
    along : (x y m : ℤ) → x ≤ℤ y → (x +ℤ m) ≤ℤ (y +ℤ m)
    along x y m h = omega (arith, ints, clamps)

    in_range : {c d : Bounds} → c ≡ d → AreInRange c → AreInRange d
    in_range e h = let P : Bounds → Type 0 = AreInRange in subst P e h

-- ---- and they cover what the shape does

there_and_back : (x a : ℤ) → (x -ℤ (a -ℤ lowest)) -ℤ (lowest -ℤ a) ≡ x
there_and_back x a = omega (arith, ints, clamps)

pub shape_back : (p : Placement) (element : Element) (pieces : List Rect) (b : Bounds) (x y : ℤ) → IsDrawn element pieces b → IsNarrow b
    → carried (composed p (way_back b)) (covered pieces) x y ≡ carried p (covers_of element) x y
shape_back p element pieces b x y drawn narrow =
    carried_together p (way_back b) (covered pieces) x y
    ∙ (drawn.filled narrow (back_x p x y -ℤ (b.left -ℤ lowest)) (back_y p x y -ℤ (b.bottom -ℤ lowest))
    ∙ rw (there_and_back (back_x p x y) b.left, there_and_back (back_y p x y) b.bottom) refl)

-- ---- the way back is short

pub way_read : (b : Bounds) (q : Placement) → IsNear b → q ≡ shift (read (read b.left -ℤ lowest)) (read (read b.bottom -ℤ lowest)) → q ≡ way_back b
way_read b q n is = is ∙ ap₂ (one b.left b.right n.left n.wide n.right) (one b.bottom b.top n.bottom n.tall n.top)
  where
    one : (a c : ℤ) → negsuc 8589934591 ≤ℤ a → a ≤ℤ c → c ≤ℤ pos 8589934592 → read (read a -ℤ lowest) ≡ a -ℤ lowest
    one a c h k l = omega (arith, ints, clamps)

    ap₂ : {a b c d : ℤ} → a ≡ c → b ≡ d → shift a b ≡ shift c d
    ap₂ h k = λ i. shift (h i) (k i)

pub way_short : (b : Bounds) → IsNear b → IsWithin 1 (way_back b)
way_short b n = record { x = one b.left b.right n.left n.wide n.right; y = one b.bottom b.top n.bottom n.tall n.top }
  where
    one : (a c : ℤ) → negsuc 8589934591 ≤ℤ a → a ≤ℤ c → c ≤ℤ pos 8589934592 → unsigned_abs (a -ℤ lowest) ≤ 1 * 68719476736
    one a c h k l = omega (arith, ints, clamps)
