-- Rectangles that are carried: their squares, and how far they go.
use Rattle.std.proofs.Common.{◌++◌, ◌≡◌, ℕ, ◌+◌, ◌<◌, ℤ, pos, negsuc, ◌+ℤ◌, ◌-ℤ◌, ◌≤ℤ◌, ◌<ℤ◌, List, [], ◌∷◌, length, get_or, take, refl, arith, ap, ◌∙◌, sym, Bool, true, false, cond, ◌&&◌, ◌||◌}
use Rattle.std.specs.Prelude.{int_lt, int_le}
use Rattle.std.specs.List.{list_any}
use Rattle.std.specs.Int.{int_min, int_max}
use Rattle.std.proofs.lemmas.Int.{ints, clamps}
use Rattle.std.proofs.lemmas.List.Folds.{list_any_more}
use Rattle.fill_base.specs.declared.rect.Rect.{Rect}
use Rattle.fill_base.specs.Coordinates.{IsCoordinate}
use Rattle.fill_base.specs.Counts.{is_between}
use Rattle.fill_base.specs.Squares.{squares}
use Rattle.fill_base.proofs.Signed.{read, read_is, coordinate_fits}
use Rattle.fill_region.specs.Squares.{covered}
use Rattle.gds_shape.specs.declared.bounds.Bounds.{Bounds}
use Rattle.gds_shape.specs.Paths.{in_bounds, AreInRange}
use Rattle.gds_cells.specs.declared.placement.Placement.{Placement}
use Rattle.gds_cells.specs.Placements.{back_x, back_y, signed, mirrored, carried, carried_bounds}
use Rattle.gds_cells.specs.steps.Prepared.{edges_of, IsOrdered, IsPart}

-- ---- one axis: a range, negated or not, and moved

abbrev pub low : Bool → ℤ → ℤ → ℤ → ℤ
low f a b m = int_min (signed f a +ℤ m) (signed f b +ℤ m)

abbrev pub high : Bool → ℤ → ℤ → ℤ → ℤ
high f a b m = int_max (signed f a +ℤ m) (signed f b +ℤ m)

low_first : (a b : ℤ) → a ≤ℤ b → int_min a b ≡ a
low_first a b h = omega (arith, ints, clamps)

low_second : (a b : ℤ) → b ≤ℤ a → int_min a b ≡ b
low_second a b h = omega (arith, ints, clamps)

high_first : (a b : ℤ) → b ≤ℤ a → int_max a b ≡ a
high_first a b h = omega (arith, ints, clamps)

high_second : (a b : ℤ) → a ≤ℤ b → int_max a b ≡ b
high_second a b h = omega (arith, ints, clamps)

and_same : (a b c d : Bool) → a ≡ c → b ≡ d → (a && b) ≡ (c && d)
and_same a b c d h k = rw (h, k) refl

and_swap : (a b c d : Bool) → a ≡ d → b ≡ c → (a && b) ≡ (c && d)
and_swap true true c d h k = rw (sym h, sym k) refl
and_swap true false c d h k = rw (sym h, sym k) refl
and_swap false true c d h k = rw (sym h, sym k) refl
and_swap false false c d h k = rw (sym h, sym k) refl

le_lt : (a z c b : ℤ) → (a ≤ℤ z → c <ℤ b) → (c <ℤ b → a ≤ℤ z) → int_le a z ≡ int_lt c b
le_lt a z c b h k = grind (arith, ints)

span_back : (f : Bool) (a b z m : ℤ) → a ≤ℤ b → is_between (low f a b m) (high f a b m) z ≡ is_between a b (mirrored f (z -ℤ m))
span_back false a b z m h =
    rw (low_first (a +ℤ m) (b +ℤ m) (omega (arith, ints)), high_second (a +ℤ m) (b +ℤ m) (omega (arith, ints))) (and_same _ _ _ _ begins ends)
  where
    begins : int_le (a +ℤ m) z ≡ int_le a (z -ℤ m)
    begins = grind (arith, ints)

    ends : int_lt z (b +ℤ m) ≡ int_lt (z -ℤ m) b
    ends = grind (arith, ints)
span_back true a b z m h =
    rw (low_second ((pos 0 -ℤ a) +ℤ m) ((pos 0 -ℤ b) +ℤ m) (omega (arith, ints)), high_first ((pos 0 -ℤ a) +ℤ m) ((pos 0 -ℤ b) +ℤ m) (omega (arith, ints))) (and_swap _ _ _ _ begins ends)
  where
    begins : int_le ((pos 0 -ℤ b) +ℤ m) z ≡ int_lt (negsuc 0 -ℤ (z -ℤ m)) b
    begins = le_lt ((pos 0 -ℤ b) +ℤ m) z (negsuc 0 -ℤ (z -ℤ m)) b (λ h. omega (arith, ints)) (λ h. omega (arith, ints))

    ends : int_lt z ((pos 0 -ℤ a) +ℤ m) ≡ int_le a (negsuc 0 -ℤ (z -ℤ m))
    ends = sym (le_lt a (negsuc 0 -ℤ (z -ℤ m)) z ((pos 0 -ℤ a) +ℤ m) (λ h. omega (arith, ints)) (λ h. omega (arith, ints)))

strict : (f : Bool) (a b m : ℤ) → a <ℤ b → low f a b m <ℤ high f a b m
strict false a b m h = omega (arith, ints, clamps)
strict true a b m h = omega (arith, ints, clamps)

-- what lies within a range lies within it when it's carried
pub record InRange (f : Bool) (a b m : ℤ) : Type 0 where
  pub least : IsCoordinate (low f a b m)
  pub most : IsCoordinate (high f a b m)

part_in_range : (f : Bool) (a b c d m : ℤ) → a ≤ℤ c → c ≤ℤ d → d ≤ℤ b → InRange f a b m → InRange f c d m
part_in_range false a b c d m h k l r = record {
  least = record { least = omega (arith, ints, clamps, r.least.least, r.least.most); most = omega (arith, ints, clamps, r.most.most) };
  most = record { least = omega (arith, ints, clamps, r.least.least); most = omega (arith, ints, clamps, r.most.most) };
}
part_in_range true a b c d m h k l r = record {
  least = record { least = omega (arith, ints, clamps, r.least.least, r.least.most); most = omega (arith, ints, clamps, r.most.most) };
  most = record { least = omega (arith, ints, clamps, r.least.least); most = omega (arith, ints, clamps, r.most.most) };
}

-- ---- both axes

and_comm : (a b : Bool) → (a && b) ≡ (b && a)
and_comm true true = refl
and_comm true false = refl
and_comm false true = refl
and_comm false false = refl

-- a carried rectangle holds the squares that come from it
pub bounds_back : (p : Placement) (b : Bounds) (x y : ℤ) → IsOrdered b → in_bounds (carried_bounds p b) x y ≡ carried p (in_bounds b) x y
bounds_back p b x y o = cases p.swapped
  where
    cases : (s : Bool)
        → (is_between (low p.flip_x (cond s b.bottom b.left) (cond s b.top b.right) p.x) (high p.flip_x (cond s b.bottom b.left) (cond s b.top b.right) p.x) x
        && is_between (low p.flip_y (cond s b.left b.bottom) (cond s b.right b.top) p.y) (high p.flip_y (cond s b.left b.bottom) (cond s b.right b.top) p.y) y)
        ≡ in_bounds b (cond s (mirrored p.flip_y (y -ℤ p.y)) (mirrored p.flip_x (x -ℤ p.x))) (cond s (mirrored p.flip_x (x -ℤ p.x)) (mirrored p.flip_y (y -ℤ p.y)))
    cases true =
        and_same _ _ _ _ (span_back p.flip_x b.bottom b.top x p.x o.tall) (span_back p.flip_y b.left b.right y p.y o.wide)
        ∙ and_comm (is_between b.bottom b.top (mirrored p.flip_x (x -ℤ p.x))) (is_between b.left b.right (mirrored p.flip_y (y -ℤ p.y)))
    cases false = and_same _ _ _ _ (span_back p.flip_x b.left b.right x p.x o.wide) (span_back p.flip_y b.bottom b.top y p.y o.tall)

pub record IsSolid (b : Bounds) : Type 0 where
  pub wide : b.left <ℤ b.right
  pub tall : b.bottom <ℤ b.top

pub carried_solid : (p : Placement) (b : Bounds) → IsSolid b → IsSolid (carried_bounds p b)
carried_solid p b h = cases p.swapped
  where
    cases : (s : Bool) → IsSolid (record {
      left = low p.flip_x (cond s b.bottom b.left) (cond s b.top b.right) p.x;
      bottom = low p.flip_y (cond s b.left b.bottom) (cond s b.right b.top) p.y;
      right = high p.flip_x (cond s b.bottom b.left) (cond s b.top b.right) p.x;
      top = high p.flip_y (cond s b.left b.bottom) (cond s b.right b.top) p.y;
    })
    cases true = record { wide = strict p.flip_x b.bottom b.top p.x h.tall; tall = strict p.flip_y b.left b.right p.y h.wide }
    cases false = record { wide = strict p.flip_x b.left b.right p.x h.wide; tall = strict p.flip_y b.bottom b.top p.y h.tall }

pub part_carried : (p : Placement) (b c : Bounds) → IsPart b c → IsOrdered c → AreInRange (carried_bounds p b) → AreInRange (carried_bounds p c)
part_carried p b c h o = cases p.swapped
  where
    cases : (s : Bool)
        → AreInRange (record {
          left = low p.flip_x (cond s b.bottom b.left) (cond s b.top b.right) p.x;
          bottom = low p.flip_y (cond s b.left b.bottom) (cond s b.right b.top) p.y;
          right = high p.flip_x (cond s b.bottom b.left) (cond s b.top b.right) p.x;
          top = high p.flip_y (cond s b.left b.bottom) (cond s b.right b.top) p.y;
        })
        → AreInRange (record {
          left = low p.flip_x (cond s c.bottom c.left) (cond s c.top c.right) p.x;
          bottom = low p.flip_y (cond s c.left c.bottom) (cond s c.right c.top) p.y;
          right = high p.flip_x (cond s c.bottom c.left) (cond s c.top c.right) p.x;
          top = high p.flip_y (cond s c.left c.bottom) (cond s c.right c.top) p.y;
        })
    cases true r =
        let v = part_in_range p.flip_x b.bottom b.top c.bottom c.top p.x h.bottom o.tall h.top (record { least = r.0.0; most = r.1.0 }) in
        let w = part_in_range p.flip_y b.left b.right c.left c.right p.y h.left o.wide h.right (record { least = r.0.1; most = r.1.1 }) in
        ((v.least, w.least), (v.most, w.most))
    cases false r =
        let v = part_in_range p.flip_x b.left b.right c.left c.right p.x h.left o.wide h.right (record { least = r.0.0; most = r.1.0 }) in
        let w = part_in_range p.flip_y b.bottom b.top c.bottom c.top p.y h.bottom o.tall h.top (record { least = r.0.1; most = r.1.1 }) in
        ((v.least, w.least), (v.most, w.most))

-- ---- rectangles of squares

pub rect_solid : (r : Rect) → IsSolid (edges_of r)
rect_solid r = record { wide = r.wide; tall = r.tall }

pub lt_le : (a b : ℤ) → a <ℤ b → a ≤ℤ b
lt_le a b h = omega (arith, ints)

pub rect_ordered : (r : Rect) → IsOrdered (edges_of r)
rect_ordered r = record { wide = lt_le r.x1 r.x2 r.wide; tall = lt_le r.y1 r.y2 r.tall }

coordinate_read : (z : ℤ) → IsCoordinate z → read z ≡ z
coordinate_read z h = read_is z (coordinate_fits z h.least h.most)

abbrev pub four : ℤ → ℤ → ℤ → ℤ → Bounds
four l m r t = record { left = l; bottom = m; right = r; top = t }

-- the edges of a rectangle in range, read back from their bits
pub range_read : (b : Bounds) → AreInRange b → four (read b.left) (read b.bottom) (read b.right) (read b.top) ≡ b
range_read b h = rw (coordinate_read b.left h.0.0, coordinate_read b.bottom h.0.1, coordinate_read b.right h.1.0, coordinate_read b.top h.1.1) refl

pub rect_wide : (p : Placement) (r : Rect) (b : Bounds) → b ≡ carried_bounds p (edges_of r) → AreInRange (carried_bounds p (edges_of r)) → read b.left <ℤ read b.right
rect_wide p r b is range =
    let e = range_read b (rw is range) in
    rw (ap (λ c. c.left) e, ap (λ c. c.right) e, is) (carried_solid p (edges_of r) (rect_solid r)).wide

pub rect_tall : (p : Placement) (r : Rect) (b : Bounds) → b ≡ carried_bounds p (edges_of r) → AreInRange (carried_bounds p (edges_of r)) → read b.bottom <ℤ read b.top
rect_tall p r b is range =
    let e = range_read b (rw is range) in
    rw (ap (λ c. c.bottom) e, ap (λ c. c.top) e, is) (carried_solid p (edges_of r) (rect_solid r)).tall

pub rect_back : (p : Placement) (r made : Rect) (b : Bounds) → b ≡ carried_bounds p (edges_of r) → AreInRange (carried_bounds p (edges_of r))
    → (made.x1 ≡ read b.left) × (made.y1 ≡ read b.bottom) × (made.x2 ≡ read b.right) × (made.y2 ≡ read b.top)
    → (x y : ℤ) → squares made x y ≡ carried p (squares r) x y
rect_back p r made b is range made_is x y =
    let e : edges_of made ≡ b = rw (made_is.0, made_is.1, made_is.2, made_is.3) (range_read b (rw is range)) in
    ap (λ c. in_bounds c x y) (e ∙ is) ∙ bounds_back p (edges_of r) x y (rect_ordered r)

-- ---- all pieces

any_append : (p : Rect → Bool) (rs : List Rect) (r : Rect) → list_any p (rs ++ r ∷ []) ≡ (list_any p rs || p r)
any_append p [] r = or_none (p r)
  where
    or_none : (b : Bool) → (b || false) ≡ b
    or_none true = refl
    or_none false = refl
any_append p (s ∷ rs) r = ap (λ b. p s || b) (any_append p rs r) ∙ sym (group (p s) (list_any p rs) (p r))
  where
    group : (a b c : Bool) → ((a || b) || c) ≡ (a || (b || c))
    group true b c = refl
    group false b c = refl

-- one piece more
pub pieces_next : (p : Placement) (pieces : List Rect) (k : ℕ) (d made : Rect) (before new : List Rect) (old : Bool) (x y : ℤ) → k < length pieces
    → squares made x y ≡ carried p (squares (get_or pieces k d)) x y → new ≡ before ++ made ∷ []
    → covered before x y ≡ (old || carried p (covered (take k pieces)) x y)
    → covered new x y ≡ (old || carried p (covered (take (k + 1) pieces)) x y)
pieces_next p pieces k d made before new old x y lt is put so_far =
    ap (λ rs. covered rs x y) put ∙ (any_append (λ r. squares r x y) before made
    ∙ rw (so_far, is, list_any_more (λ r. squares r (back_x p x y) (back_y p x y)) pieces k d lt) (group old _ _))
  where
    group : (a b c : Bool) → ((a || b) || c) ≡ (a || (b || c))
    group true b c = refl
    group false b c = refl
