-- What a rectangle sees of copies.
use Rattle.std.proofs.Common.{◌≡◌, ℕ, zero, suc, ◌-◌, ◌<◌, ◌≤◌, ℤ, Bool, true, false, ◌||◌, List, [], ◌∷◌, ◌++◌, length, map, get_or, refl, sym, ap, subst, arith, ◌∙◌}
use Rattle.std.specs.Prelude.{int_lt, int_le, slice_get, Option, Some, None, All}
use Rattle.std.proofs.lemmas.Int.{ints}
use Rattle.std.proofs.lemmas.Bool.{and_parts, and_from}
use Rattle.fill_base.specs.declared.rect.Rect.{Rect}
use Rattle.fill_base.specs.Squares.{squares}
use Rattle.gds_flatten.specs.steps.Finding.{IsDrawnOn}
use Rattle.gds_shape.specs.declared.bounds.Bounds.{Bounds}
use Rattle.gds_shape.specs.Paths.{in_bounds}
use Rattle.gds_shape.specs.Extents.{LiesWithin}
use Rattle.gds_cells.specs.declared.cell.Cell.{Cell}
use Rattle.gds_cells.specs.declared.link.Link.{Link}
use Rattle.gds_cells.specs.declared.placement.Placement.{Placement}
use Rattle.gds_cells.specs.Placements.{back_x, back_y, carried, carried_bounds}
use Rattle.gds_cells.specs.Copies.{Copy, carry_copy, copy_covers, drawn, copies}
use Rattle.gds_cells.specs.Shapes.{covers_of}
use Rattle.gds_flatten.specs.Frames.{meets}
use Rattle.gds_flatten.specs.steps.Framing.{IsUnseen, IsFine, IsFineIf, IsHeld, IsRight, AreHeld, extent_at}
use Rattle.gds_cells.specs.steps.Ranges.{IsWithin}
use Rattle.gds_cells.specs.steps.Prepared.{IsOrdered}
use Rattle.gds_cells.specs.steps.Walks.{hierarchy}
use Rattle.gds_cells.specs.steps.Counting.{links_in}
use Rattle.gds_cells.proofs.Carrying.{bounds_back}
use Rattle.gds_cells.proofs.Composing.{carried_together}
use Rattle.gds_flatten.proofs.Drawing.{drawn_joins, or_joins, or_false}

-- ---- one after another

pub none_on : (r : Rect) (old : ℤ → ℤ → Bool) → IsDrawnOn r [] old old
none_on r old x y on = or_false (old x y)

pub more_on : (r : Rect) (cs ds : List Copy) (old mid new : ℤ → ℤ → Bool) → IsDrawnOn r cs old mid → IsDrawnOn r ds mid new → IsDrawnOn r (cs ++ ds) old new
more_on r cs ds old mid new first then x y on =
    then x y on ∙ rw (first x y on, drawn_joins cs ds x y) (or_joins (old x y) (drawn cs x y) (drawn ds x y))

-- ---- what isn't seen

pub unseen_on : (r : Rect) (cs : List Copy) (old : ℤ → ℤ → Bool) → IsUnseen r cs → IsDrawnOn r cs old old
unseen_on r cs old unseen x y on = rw (unseen x y on) (or_false (old x y))

-- a square of both is one where they meet
stretch : (r : Rect) (b : Bounds) (x y : ℤ) → in_bounds b x y ≡ true → squares r x y ≡ true → meets r b ≡ true
stretch r b x y h k =
    let p = and_parts _ _ h in
    let u = and_parts _ _ p.0 in
    let v = and_parts _ _ p.1 in
    let q = and_parts _ _ k in
    let s = and_parts _ _ q.0 in
    let t = and_parts _ _ q.1 in
    and_from _ _ (and_from _ _ (below b.left x r.x2 u.0 s.1) (below r.x1 x b.right s.0 u.1)) (and_from _ _ (below b.bottom y r.y2 v.0 t.1) (below r.y1 y b.top t.0 v.1))
  where
    below : (a z c : ℤ) → int_le a z ≡ true → int_lt z c ≡ true → int_lt a c ≡ true
    below a z c h k = grind (arith, ints)

pub not_true : (b : Bool) → (b ≡ true → ⊥) → b ≡ false
not_true true h = absurd (h refl)
not_true false h = refl

-- the copies of a cell are carried as what they draw is
pub drawn_carried : (at : Placement) (cs : List Copy) (x y : ℤ) → drawn (map (carry_copy at) cs) x y ≡ carried at (drawn cs) x y
drawn_carried at [] x y = refl
drawn_carried at (c ∷ cs) x y = rw (carried_together at c.placement (covers_of c.element) x y, drawn_carried at cs x y) refl

within_unseen : (r : Rect) (at : Placement) (b : Bounds) (s : ℤ → ℤ → Bool) → IsOrdered b → LiesWithin s b → meets r (carried_bounds at b) ≡ false
    → (x y : ℤ) → squares r x y ≡ true → carried at s x y ≡ false
within_unseen r at b s ordered lies apart x y on = not_true (carried at s x y) (λ seen.
    let held = bounds_back at b x y ordered ∙ lies (back_x at x y) (back_y at x y) seen in
    let both = sym (stretch r (carried_bounds at b) x y held on) ∙ apart in cc)

pub held_unseen : (r : Rect) (at : Placement) (b : Bounds) (cs : List Copy) → IsOrdered b → LiesWithin (drawn cs) b → meets r (carried_bounds at b) ≡ false
    → IsUnseen r (map (carry_copy at) cs)
held_unseen r at b cs ordered lies apart x y on = drawn_carried at cs x y ∙ within_unseen r at b (drawn cs) ordered lies apart x y on

pub nothing_unseen : (r : Rect) (at : Placement) (cs : List Copy) → ((x y : ℤ) → drawn cs x y ≡ false) → IsUnseen r (map (carry_copy at) cs)
nothing_unseen r at cs nothing x y on = drawn_carried at cs x y ∙ nothing (back_x at x y) (back_y at x y)

pub none_unseen : (r : Rect) → IsUnseen r []
none_unseen r x y on = refl

pub both_unseen : (r : Rect) (cs ds : List Copy) → IsUnseen r cs → IsUnseen r ds → IsUnseen r (cs ++ ds)
both_unseen r cs ds first then x y on = drawn_joins cs ds x y ∙ rw (first x y on, then x y on) refl

-- one shape
pub shape_unseen : (r : Rect) (at : Placement) (b : Bounds) (s : ℤ → ℤ → Bool) (c : Copy) → copy_covers c ≡ carried at s → IsOrdered b → LiesWithin s b → meets r (carried_bounds at b) ≡ false
    → IsUnseen r (c ∷ [])
shape_unseen r at b s c is ordered lies apart x y on = ap (λ (t : ℤ → ℤ → Bool). t x y || false) is ∙ rw (within_unseen r at b s ordered lies apart x y on) refl

pub bare_unseen : (r : Rect) (at : Placement) (s : ℤ → ℤ → Bool) (c : Copy) → copy_covers c ≡ carried at s → ((x y : ℤ) → s x y ≡ false) → IsUnseen r (c ∷ [])
bare_unseen r at s c is nothing x y on = ap (λ (t : ℤ → ℤ → Bool). t x y || false) is ∙ rw (nothing (back_x at x y) (back_y at x y)) refl

-- ---- what is known of cells

pub held_here : (cells : List Cell) (extents : List (Option Bounds)) (n c : ℕ) → AreHeld cells extents n c → IsRight (copies (hierarchy cells) n c) (extent_at extents c)
unfolding AreHeld copies
held_here cells extents zero c h = h
held_here cells extents (suc n) c h = h.0

pub held_below : (cells : List Cell) (extents : List (Option Bounds)) (n c k : ℕ) (cell : Cell) (l : Link) → 0 < n → slice_get cells c ≡ Some cell → k < length cell.links.items
    → l ≡ get_or cell.links.items k l → AreHeld cells extents n c → AreHeld cells extents (n - 1) l.cell
unfolding AreHeld
held_below cells extents zero c k cell l some is within l_is h = absurd (omega (arith, some))
held_below cells extents (suc n) c k cell l some is within l_is h =
    let less : n ≡ suc n - 1 = omega arith in
    let all = subst (λ o. All (λ (m : Link). AreHeld cells extents n m.cell) (links_in o)) is h.1 in
    subst (λ m. AreHeld cells extents m l.cell) less (subst (λ (m : Link). AreHeld cells extents n m.cell) (sym l_is) (all k l within))

pub nothing_held : (cs : List Copy) (o : Option Bounds) → o ≡ None → IsHeld cs o → (x y : ℤ) → drawn cs x y ≡ false
nothing_held cs o is h x y = not_true (drawn cs x y) (λ seen. let there = subst (IsHeld cs) is h x y seen in cc)

pub fine_at : (extents : List (Option Bounds)) (c : ℕ) (b : Bounds) → All IsFineIf extents → extent_at extents c ≡ Some b → IsFine b
fine_at [] c b all is = absurd cc
fine_at (e ∷ es) zero b all is = subst IsFineIf is (all 0 None (omega arith))
fine_at (e ∷ es) (suc c) b all is = fine_at es c b (λ k d lt. all (suc k) d (omega (arith, lt))) is

pub wider : (n m : ℕ) (p : Placement) → n ≤ m → IsWithin n p → IsWithin m p
wider n m p le h = let x = h.x in let y = h.y in record { x = omega (arith, le, x); y = omega (arith, le, y) }
