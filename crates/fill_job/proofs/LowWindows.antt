-- Low windows kept as squares, and the windows that hold a box.
use Rattle.std.proofs.Common.{◌≡◌, refl, ap, sym, ◌∙◌, ℕ, ◌≤◌, ◌<◌, ℤ, pos, ◌+ℤ◌, ◌-ℤ◌, ◌≤ℤ◌, ◌<ℤ◌, arith, inl, inr, ◌⊎◌, List, Bool, true, false, ◌&&◌, not, ◌↔◌}
use Rattle.std.specs.Prelude.{IsTrue, int_le, unsigned_abs}
use Rattle.std.proofs.lemmas.Bool.{and_from, and_parts, cases_Bool}
use Rattle.std.proofs.lemmas.Int.{ints}
use Rattle.fill_base.specs.Sides.{sides_of}
use Rattle.fill_base.specs.Squares.{squares}
use Rattle.fill_base.specs.declared.rect.Rect.{Rect}
use Rattle.fill_area.specs.Axes.{IsContaining, IsIndex, axis_begin, axis_end}
use Rattle.fill_area.specs.Grid.{Grid}
use Rattle.fill_area.specs.declared.axis.Axis.{Axis}
use Rattle.fill_region.specs.Runs.{Sides, holds}
use Rattle.fill_raster.specs.Axes.{box_begin, box_end}
use Rattle.fill_size.specs.Distance.{InConflict, IsNear}
use Rattle.fill_size.proofs.Ranges.{grown_conflict, squares_inside, squares_true}
use Rattle.fill_text.specs.Rules.{Values}
use Rattle.fill_job.specs.Basis.{layers_by, layers_in, read_by, windows_in}
use Rattle.fill_job.specs.ReadSets.{ReadSet, layers_near, read_set, touches}
use Rattle.fill_job.specs.declared.basis.Basis.{Basis}
use Rattle.fill_job.specs.Searches.{some_below, some_pair, some_within}
use Rattle.fill_job.specs.Plans.{Layers, Plan, PointSet, plan_of, holds_box, in_window_of, is_suitable, is_taken}
use Rattle.fill_job.specs.steps.Windows.{HoldsIn}
use Rattle.fill_job.proofs.Conflicts.{some_within_decides, grown_le}
use Rattle.fill_job.proofs.Searching.{some_below_finds, some_below_has}

pub both_or_none : (a b : Bool) → (a ≡ true → b ≡ true) → (b ≡ true → a ≡ true) → a ≡ b
both_or_none true b f g = sym (f refl)
both_or_none false true f g = g refl
both_or_none false false f g = refl

-- ---- a range of low windows as a rectangle of squares

index_of : (c d : ℕ) (x : ℤ) → pos c ≤ℤ x → x <ℤ pos d → (pos (unsigned_abs x) ≡ x) × IsIndex c d (unsigned_abs x)
index_of c d x low high = (omega (arith, ints), (omega (arith, ints), omega (arith, ints)))

same_number : (x u : ℤ) → IsNear (pos 0) x u → u ≡ x
same_number x u n = let a : (x -ℤ u) ≤ℤ pos 0 = n.above in let b : (u -ℤ x) ≤ℤ pos 0 = n.below in omega (arith, ints)

no_further : (x : ℤ) → IsNear (pos 0) x x
no_further x = record { above = omega (arith, ints); below = omega (arith, ints) }

index_le : (c d a : ℕ) → IsIndex c d a → (pos c ≤ℤ pos a) × (pos a <ℤ pos d)
index_le c d a is = let low = is.0 in let high = is.1 in (omega (arith, ints), omega (arith, ints))

pub record LowIn (low : List Sides) (c0 c1 r0 r1 : ℕ) : Type 0 where
  pub a : ℕ
  pub b : ℕ
  pub column : IsIndex c0 c1 a
  pub row : IsIndex r0 r1 b
  pub is_low : holds low (pos a) (pos b) ≡ true

pub low_in_range : (low : List Sides) (r : Rect) (c0 c1 r0 r1 : ℕ) → r.x1 ≡ pos c0 → r.y1 ≡ pos r0 → r.x2 ≡ pos c1 → r.y2 ≡ pos r1 → InConflict (holds low) (squares r) (pos 0) ↔ LowIn low c0 c1 r0 r1
low_in_range low r c0 c1 r0 r1 e1 e2 e3 e4 = (
  (λ c.
      let at = squares_inside r c.x c.y c.square in
      let x = index_of c0 c1 c.x (rw e1 at at.left) (rw e3 at at.right) in
      let y = index_of r0 r1 c.y (rw e2 at at.bottom) (rw e4 at at.top) in
      record {
        a = unsigned_abs c.x;
        b = unsigned_abs c.y;
        column = x.1;
        row = y.1;
        is_low = rw (x.0, y.0, sym (same_number c.x c.reached.u c.reached.across), sym (same_number c.y c.reached.v c.reached.up)) c.reached.square;
      }),
  (λ l.
      let x = index_le c0 c1 l.a l.column in let y = index_le r0 r1 l.b l.row in
      record {
        x = pos l.a;
        y = pos l.b;
        square = squares_true r (pos l.a) (pos l.b) (rw e1 x.0) (rw e3 x.1) (rw e2 y.0) (rw e4 y.1);
        reached = record { u = pos l.a; v = pos l.b; square = l.is_low; across = no_further (pos l.a); up = no_further (pos l.b) };
      }),
)

-- ---- the windows that hold a box

le_is : (a b : ℤ) → a ≤ℤ b → int_le a b ≡ true
le_is a b h = grind (arith, ints)

is_le : (a b : ℤ) → int_le a b ≡ true → a ≤ℤ b
is_le a b h = grind (arith, ints)

containing : (axis : Axis) (a : ℕ) (lo hi : ℤ) → a < axis.count → int_le (axis_begin axis a) lo && int_le hi (axis_end axis a) ≡ true → IsContaining axis lo hi a
containing axis a lo hi lt h = let parts = and_parts (int_le (axis_begin axis a) lo) (int_le hi (axis_end axis a)) h in (lt, is_le _ _ parts.0, is_le _ _ parts.1)

pub in_low_is : (plan : Plan) (low : List Sides) (i j : ℤ) (r : Rect) → r.x1 ≡ box_begin plan.raster.across i → r.y1 ≡ box_begin plan.raster.up j → r.x2 ≡ box_end plan.raster.across i → r.y2 ≡ box_end plan.raster.up j
    → IsTrue (in_window_of plan (windows_in low) i j) ↔ HoldsIn plan.windows low (sides_of r)
unfolding in_window_of some_pair
in_low_is plan low i j r e1 e2 e3 e4 =
    let columns = plan.windows.across.count in let rows = plan.windows.up.count in (
      (λ h.
          let column = some_below_finds (λ a. some_below (λ b. windows_in low a b && holds_box plan a b i j) rows) columns h in
          let row = some_below_finds (λ b. windows_in low column.0 b && holds_box plan column.0 b i j) rows column.2 in
          let parts = and_parts (windows_in low column.0 row.0) (holds_box plan column.0 row.0 i j) row.2 in
          let sides = and_parts _ _ parts.1 in
          record {
            a = column.0;
            b = row.0;
            across = rw (e1, e3) (containing plan.windows.across column.0 _ _ column.1 sides.0);
            up = rw (e2, e4) (containing plan.windows.up row.0 _ _ row.1 sides.1);
            is_low = parts.0;
          }),
      (λ h.
          let across = rw (e1, e3) at h.across in
          let up = rw (e2, e4) at h.up in
          some_below_has (λ a. some_below (λ b. windows_in low a b && holds_box plan a b i j) rows) columns h.a across.0
          (some_below_has (λ b. windows_in low h.a b && holds_box plan h.a b i j) rows h.b up.0
          (and_from _ _ h.is_low (and_from _ _ (and_from _ _ (le_is _ _ across.1) (le_is _ _ across.2)) (and_from _ _ (le_is _ _ up.1) (le_is _ _ up.2)))))),
    )

-- ---- suitable places

-- a place that nothing takes is suitable where its box lies in a low window
pub free_is : (plan : Plan) (layers : Layers) (low : List Sides) (i j : ℤ) (r : Rect) (taken b : Bool)
    → r.x1 ≡ box_begin plan.raster.across i → r.y1 ≡ box_begin plan.raster.up j → r.x2 ≡ box_end plan.raster.across i → r.y2 ≡ box_end plan.raster.up j
    → taken ≡ is_taken plan layers i j → taken ≡ false → (IsTrue b ↔ HoldsIn plan.windows low (sides_of r)) → b ≡ is_suitable plan layers (windows_in low) i j
free_is plan layers low i j r taken b e1 e2 e3 e4 taken_is free held =
    let at = in_low_is plan low i j r e1 e2 e3 e4 in
    let within = both_or_none b (in_window_of plan (windows_in low) i j) (λ h. at.1 (held.0 h)) (λ h. held.1 (at.0 h)) in
    rw (sym taken_is ∙ free, within) refl

-- ---- equal read sets

-- what was read is what there is to read now
pub read_matches : (p : Basis) (rules : Values) (layers : Layers) (metal fill keep low : List Sides) (tile : ℕ) (r m f k w : Bool) → (IsTrue r ↔ (p.rules ≡ rules))
    → (IsTrue m ↔ ((x y : ℤ) → holds p.pieces.metal x y ≡ holds metal x y)) → (IsTrue f ↔ ((x y : ℤ) → holds p.pieces.fill x y ≡ holds fill x y))
    → (IsTrue k ↔ ((x y : ℤ) → holds p.pieces.keep x y ≡ holds keep x y))
    → (IsTrue w ↔ ((a b : ℕ) → windows_in p.low a b ≡ (windows_in low a b && touches (plan_of p.rules) tile a b)))
    → layers_in metal fill keep ≡ layers_near (plan_of rules) layers tile
    → IsTrue ((r && (m && (f && k))) && w) ↔ (read_by p ≡ read_set rules layers (windows_in low) tile)
read_matches p rules layers metal fill keep low tile r m f k w same_rules same_metal same_fill same_keep same_low near = (
  (λ h.
      let more = and_parts (r && (m && (f && k))) w h in
      let parts = and_parts r (m && (f && k)) more.0 in
      let both = and_parts m (f && k) parts.1 in let rest = and_parts f k both.1 in
      let a = same_rules.0 parts.0 in let b = same_metal.0 both.0 in let c = same_fill.0 rest.0 in let d = same_keep.0 rest.1 in
      let here : layers_by p ≡ layers_in metal fill keep = λ i. record { metal = λ x y. b x y i; fill = λ x y. c x y i; keep = λ x y. d x y i } in
      let read = here ∙ near in
      let e : (x y : ℕ) → windows_in p.low x y ≡ (windows_in low x y && touches (plan_of rules) tile x y) = λ x y. same_low.0 more.1 x y ∙ ap (λ (v : Values). windows_in low x y && touches (plan_of v) tile x y) a in
      λ i. record { rules = a i; layers = read i; low = λ x y. e x y i }),
  (λ e.
      let a : p.rules ≡ rules = ap (λ (s : ReadSet). s.rules) e in
      let here : layers_by p ≡ layers_in metal fill keep = ap (λ (s : ReadSet). s.layers) e ∙ sym near in
      let squares = and_from m (f && k) (same_metal.1 (λ x y. ap (λ (l : Layers). l.metal x y) here))
      (and_from f k (same_fill.1 (λ x y. ap (λ (l : Layers). l.fill x y) here)) (same_keep.1 (λ x y. ap (λ (l : Layers). l.keep x y) here))) in
      and_from _ _ (and_from _ _ (same_rules.1 a) squares)
      (same_low.1 (λ x y. ap (λ (s : ReadSet). s.low x y) e ∙ ap (λ (v : Values). windows_in low x y && touches (plan_of v) tile x y) (sym a)))),
)

-- ---- the test of the code

pub held_low : (g : Grid) (low : List Sides) (r : Rect) (c0 c1 r0 r1 : ℕ) → ((a : ℕ) → IsIndex c0 c1 a ↔ IsContaining g.across r.x1 r.x2 a) → ((b : ℕ) → IsIndex r0 r1 b ↔ IsContaining g.up r.y1 r.y2 b)
    → LowIn low c0 c1 r0 r1 ↔ HoldsIn g low (sides_of r)
held_low g low r c0 c1 r0 r1 across up = (
  (λ l. record { a = l.a; b = l.b; across = (across l.a).0 l.column; up = (up l.b).0 l.row; is_low = l.is_low }),
  (λ h. record { a = h.a; b = h.b; column = (across h.a).1 h.across; row = (up h.b).1 h.up; is_low = h.is_low }),
)

pub none_held : (g : Grid) (low : List Sides) (r : Rect) (c0 c1 r0 r1 : ℕ) → ((a : ℕ) → IsIndex c0 c1 a ↔ IsContaining g.across r.x1 r.x2 a) → ((b : ℕ) → IsIndex r0 r1 b ↔ IsContaining g.up r.y1 r.y2 b)
    → (c1 ≤ c0) ⊎ ((c0 < c1) × (r1 ≤ r0)) → IsTrue false ↔ HoldsIn g low (sides_of r)
none_held g low r c0 c1 r0 r1 across up empty = (
  (λ h. absurd (let e : false ≡ true = h in cc)),
  (λ h. let l = (held_low g low r c0 c1 r0 r1 across up).1 h in absurd (nothing l empty)),
)
  where
    nothing : {low : List Sides} {c0 c1 r0 r1 : ℕ} → LowIn low c0 c1 r0 r1 → (c1 ≤ c0) ⊎ ((c0 < c1) × (r1 ≤ r0)) → ⊥
    nothing l (inl h) = let a = l.column.0 in let b = l.column.1 in omega arith
    nothing l (inr h) = let a = l.row.0 in let b = l.row.1 in let k = h.1 in omega arith

-- a set is in conflict with a rectangle, or it is not
conflict_or_not : (p : PointSet) (r : Rect) (s : ℤ) → pos 0 ≤ℤ s → InConflict p (squares r) s ⊎ (¬ InConflict p (squares r) s)
conflict_or_not p r s some =
    let found = some_within_decides p (r.x1 -ℤ s) (r.y1 -ℤ s) (r.x2 +ℤ s) (r.y2 +ℤ s) (grown_le r.x1 r.x2 s r.wide some) (grown_le r.y1 r.y2 s r.tall some) in
    let near = grown_conflict p r s some in
    elim (cases_Bool (some_within p (r.x1 -ℤ s) (r.y1 -ℤ s) (r.x2 +ℤ s) (r.y2 +ℤ s))) [
      | inl h ↦ inl (near.0 (found.0 h))
      | inr h ↦ inr (λ c. let e : some_within p (r.x1 -ℤ s) (r.y1 -ℤ s) (r.x2 +ℤ s) (r.y2 +ℤ s) ≡ true = found.1 (near.1 c) in let f : true ≡ false = sym e ∙ h in absurd (cc))
    ]

pub held_in_range : (g : Grid) (low : List Sides) (r q : Rect) (c0 c1 r0 r1 : ℕ) (b : Bool) → ((a : ℕ) → IsIndex c0 c1 a ↔ IsContaining g.across r.x1 r.x2 a) → ((b : ℕ) → IsIndex r0 r1 b ↔ IsContaining g.up r.y1 r.y2 b)
    → q.x1 ≡ pos c0 → q.y1 ≡ pos r0 → q.x2 ≡ pos c1 → q.y2 ≡ pos r1 → (IsTrue b ↔ ¬ InConflict (holds low) (squares q) (pos 0)) → IsTrue (not b) ↔ HoldsIn g low (sides_of r)
held_in_range g low r q c0 c1 r0 r1 b across up e1 e2 e3 e4 clear =
    let range = low_in_range low q c0 c1 r0 r1 e1 e2 e3 e4 in
    let held = held_low g low r c0 c1 r0 r1 across up in
    turned b (conflict_or_not (holds low) q (pos 0) (omega (arith, ints))) clear (λ i. held.0 (range.0 i)) (λ h. range.1 (held.1 h))
  where
    turned : {P Q : Type 0} (b : Bool) → P ⊎ (¬ P) → (IsTrue b ↔ ¬ P) → (P → Q) → (Q → P) → IsTrue (not b) ↔ Q
    turned true either clear f g = ((λ h. absurd (let e : false ≡ true = h in cc)), (λ q. absurd (clear.0 refl (g q))))
    turned false (inl p) clear f g = ((λ h. f p), (λ q. refl))
    turned false (inr none) clear f g = absurd (let e : false ≡ true = clear.1 none in cc)
