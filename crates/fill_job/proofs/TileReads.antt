-- What is read for a tile is its read set.
use Rattle.std.proofs.Common.{◌≡◌, refl, ap, sym, ◌∙◌, ℕ, ◌<◌, ℤ, pos, ◌+ℤ◌, ◌-ℤ◌, ◌≤ℤ◌, ◌<ℤ◌, ◌≤◌, inl, inr, arith, List, Bool, true, false, ◌&&◌, ◌↔◌}
use Rattle.std.specs.Prelude.{IsTrue, int_lt, nat_lt}
use Rattle.std.specs.Int.{int_max, int_min}
use Rattle.std.proofs.lemmas.Bool.{and_from, and_parts, cases_Bool}
use Rattle.std.proofs.lemmas.Bool.Decides.{nat_tests}
use Rattle.std.proofs.lemmas.Int.{ints, clamps}
use Rattle.fill_base.specs.Coordinates.{lowest, highest}
use Rattle.fill_base.specs.Counts.{is_between}
use Rattle.fill_base.specs.declared.rect.Rect.{Rect}
use Rattle.fill_base.proofs.Between.{is_between_true, is_between_bounds}
use Rattle.fill_area.specs.Axes.{IsAxis, IsIndex, IsTouching, IsExtent, axis_begin, axis_end}
use Rattle.fill_area.specs.Grid.{IsGrid}
use Rattle.fill_area.specs.declared.axis.Axis.{Axis}
use Rattle.fill_area.proofs.Axes as axes
use Rattle.fill_region.specs.Runs.{Sides, holds}
use Rattle.fill_raster.specs.Lattice.{tile_left, tile_right, tile_bottom, tile_top}
use Rattle.fill_text.specs.Rules.{Values}
use Rattle.fill_job.specs.Basis.{layers_of, windows_in}
use Rattle.fill_job.specs.Plans.{Layers, Plan, WindowSet, plan_of}
use Rattle.fill_job.specs.ReadSets.{ReadSet, layers_near, read_set, touches}
use Rattle.fill_job.specs.declared.shared.Pieces.{Pieces}
use Rattle.fill_job.proofs.LowWindows.{both_or_none}

lt_is : (a b : ℤ) → a <ℤ b → int_lt a b ≡ true
lt_is a b h = grind (arith, ints)

is_lt : (a b : ℤ) → int_lt a b ≡ true → a <ℤ b
is_lt a b h = grind (arith, ints)

nat_lt_is : (a b : ℕ) → a < b → nat_lt a b ≡ true
nat_lt_is a b h = grind (arith, nat_tests)

is_nat_lt : (a b : ℕ) → nat_lt a b ≡ true → a < b
is_nat_lt a b h = grind (arith, nat_tests)

-- ---- windows that touch a tile

-- a span within the coordinates touches a range where it touches the part of the range within them
clamped : (lo hi l h b e : ℤ) → l ≡ int_max (lo -ℤ pos 0) lowest → h ≡ int_min (hi +ℤ pos 0) highest → b <ℤ e → lowest ≤ℤ b → e ≤ℤ highest
    → ((b <ℤ h) × (l <ℤ e)) ↔ ((b <ℤ hi) × (lo <ℤ e))
clamped lo hi l h b e le he some low high = (
  (λ t. let x = t.0 in let y = t.1 in (omega (arith, ints, clamps), omega (arith, ints, clamps))),
  (λ t. let x = t.0 in let y = t.1 in (omega (arith, ints, clamps), omega (arith, ints, clamps))),
)

index_between : (c d a : ℕ) → IsIndex c d a → is_between (pos c) (pos d) (pos a) ≡ true
index_between c d a is = let x = is.0 in let y = is.1 in is_between_true (pos c) (pos d) (pos a) (omega (arith, ints, clamps)) (omega (arith, ints, clamps))

between_index : (c d a : ℕ) → is_between (pos c) (pos d) (pos a) ≡ true → IsIndex c d a
between_index c d a h = let b = is_between_bounds (pos c) (pos d) (pos a) h in let x = b.0 in let y = b.1 in (omega (arith, ints, clamps), omega (arith, ints, clamps))

axis_touched : (axis : Axis) (lo hi l h : ℤ) (c0 c1 a : ℕ) → IsAxis axis → l ≡ int_max (lo -ℤ pos 0) lowest → h ≡ int_min (hi +ℤ pos 0) highest → (IsIndex c0 c1 a ↔ IsTouching axis l h a)
    → is_between (pos c0) (pos c1) (pos a) ≡ nat_lt a axis.count && (int_lt (axis_begin axis a) hi && int_lt lo (axis_end axis a))
axis_touched axis lo hi l h c0 c1 a is le he range =
    both_or_none (is_between (pos c0) (pos c1) (pos a)) (nat_lt a axis.count && (int_lt (axis_begin axis a) hi && int_lt lo (axis_end axis a)))
    (λ t.
    let at = range.0 (between_index c0 c1 a t) in
    let free = (same at.0).0 (at.1, at.2) in
    and_from _ _ (nat_lt_is a axis.count at.0) (and_from _ _ (lt_is _ _ free.0) (lt_is _ _ free.1)))
    (λ t.
    let parts = and_parts _ _ t in
    let sides = and_parts _ _ parts.1 in
    let lt = is_nat_lt a axis.count parts.0 in
    let at = (same lt).1 (is_lt _ _ sides.0, is_lt _ _ sides.1) in
    index_between c0 c1 a (range.1 (lt, at.0, at.1)))
  where
    same : a < axis.count → ((axis_begin axis a <ℤ h) × (l <ℤ axis_end axis a)) ↔ ((axis_begin axis a <ℤ hi) × (lo <ℤ axis_end axis a))
    same lt =
        let e : IsExtent axis a (axis_begin axis a) (axis_end axis a) = axes.extent axis.first axis.length axis.step axis.count a is lt in
        clamped lo hi l h (axis_begin axis a) (axis_end axis a) le he e.some e.low e.high

pub part_touched : (plan : Plan) (tile : ℕ) (low part : List Sides) (r : Rect) (c0 c1 r0 r1 : ℕ) → IsGrid plan.windows
    → r.x1 ≡ int_max (tile_left plan.raster tile -ℤ pos 0) lowest → r.y1 ≡ int_max (tile_bottom plan.raster tile -ℤ pos 0) lowest
    → r.x2 ≡ int_min (tile_right plan.raster tile +ℤ pos 0) highest → r.y2 ≡ int_min (tile_top plan.raster tile +ℤ pos 0) highest
    → ((a : ℕ) → IsIndex c0 c1 a ↔ IsTouching plan.windows.across r.x1 r.x2 a) → ((b : ℕ) → IsIndex r0 r1 b ↔ IsTouching plan.windows.up r.y1 r.y2 b)
    → ((x y : ℤ) → holds part x y ≡ (holds low x y && (is_between (pos c0) (pos c1) x && is_between (pos r0) (pos r1) y)))
    → (a b : ℕ) → windows_in part a b ≡ (windows_in low a b && touches plan tile a b)
part_touched plan tile low part r c0 c1 r0 r1 grid e1 e2 e3 e4 across up is a b =
    let x = axis_touched plan.windows.across (tile_left plan.raster tile) (tile_right plan.raster tile) r.x1 r.x2 c0 c1 a grid.across e1 e3 (across a) in
    let y = axis_touched plan.windows.up (tile_bottom plan.raster tile) (tile_top plan.raster tile) r.y1 r.y2 r0 r1 b grid.up e2 e4 (up b) in
    is (pos a) (pos b) ∙ rw (x, y) refl

-- the windows of a set that touch the tile are those of another set, window by window
pub part_same : (plan : Plan) (tile : ℕ) (part low : List Sides) (r : Rect) (c0 c1 r0 r1 : ℕ) (s : Bool) → IsGrid plan.windows
    → r.x1 ≡ int_max (tile_left plan.raster tile -ℤ pos 0) lowest → r.y1 ≡ int_max (tile_bottom plan.raster tile -ℤ pos 0) lowest
    → r.x2 ≡ int_min (tile_right plan.raster tile +ℤ pos 0) highest → r.y2 ≡ int_min (tile_top plan.raster tile +ℤ pos 0) highest
    → ((a : ℕ) → IsIndex c0 c1 a ↔ IsTouching plan.windows.across r.x1 r.x2 a) → ((b : ℕ) → IsIndex r0 r1 b ↔ IsTouching plan.windows.up r.y1 r.y2 b)
    → ((a b : ℕ) → windows_in part a b ≡ true → touches plan tile a b ≡ true) → (IsTrue s ↔ ((a b : ℕ) → c0 ≤ a → a < c1 → r0 ≤ b → b < r1 → windows_in part a b ≡ windows_in low a b))
    → IsTrue s ↔ ((a b : ℕ) → windows_in part a b ≡ (windows_in low a b && touches plan tile a b))
part_same plan tile part low r c0 c1 r0 r1 s grid e1 e2 e3 e4 across up inside same = (
  (λ h a b. elim (cases_Bool (touches plan tile a b)) [
    | inl at ↦
        let between = and_parts (is_between (pos c0) (pos c1) (pos a)) (is_between (pos r0) (pos r1) (pos b)) (here a b ∙ at) in
        let x = between_index c0 c1 a between.0 in let y = between_index r0 r1 b between.1 in
        same.0 h a b x.0 x.1 y.0 y.1 ∙ rw at (and_yes (windows_in low a b))
    | inr off ↦ rw off (none (windows_in part a b) (windows_in low a b) (λ t. let e : true ≡ false = sym (inside a b t) ∙ off in cc))
  ]),
  (λ each. same.1 (λ a b x y z w. each a b ∙ rw (sym (here a b) ∙ and_from _ _ (index_between c0 c1 a (x, y)) (index_between r0 r1 b (z, w))) (sym (and_yes (windows_in low a b))))),
)
  where
    here : (a b : ℕ) → is_between (pos c0) (pos c1) (pos a) && is_between (pos r0) (pos r1) (pos b) ≡ touches plan tile a b
    here a b =
        let x = axis_touched plan.windows.across (tile_left plan.raster tile) (tile_right plan.raster tile) r.x1 r.x2 c0 c1 a grid.across e1 e3 (across a) in
        let y = axis_touched plan.windows.up (tile_bottom plan.raster tile) (tile_top plan.raster tile) r.y1 r.y2 r0 r1 b grid.up e2 e4 (up b) in
        rw (x, y) refl

    and_yes : (b : Bool) → b ≡ b && true
    and_yes true = refl
    and_yes false = refl

    none : (p l : Bool) → (p ≡ true → ⊥) → p ≡ l && false
    none true l h = absurd (h refl)
    none false true h = refl
    none false false h = refl

pub part_inside : (low part : List Sides) (c0 c1 r0 r1 : ℕ) → ((x y : ℤ) → holds part x y ≡ (holds low x y && (is_between (pos c0) (pos c1) x && is_between (pos r0) (pos r1) y)))
    → (x y : ℤ) → holds part x y ≡ true → (pos 0 ≤ℤ x) × (pos 0 ≤ℤ y)
part_inside low part c0 c1 r0 r1 is x y h =
    let parts = and_parts (holds low x y) (is_between (pos c0) (pos c1) x && is_between (pos r0) (pos r1) y) (sym (is x y) ∙ h) in
    let sides = and_parts (is_between (pos c0) (pos c1) x) (is_between (pos r0) (pos r1) y) parts.1 in
    let across = (is_between_bounds (pos c0) (pos c1) x sides.0).0 in
    let up = (is_between_bounds (pos r0) (pos r1) y sides.1).0 in
    (omega (arith, ints, clamps), omega (arith, ints, clamps))

-- ---- the read set

pub and_when : (a b c : Bool) → (a ≡ true → b ≡ c) → a && b ≡ a && c
and_when true b c h = h refl
and_when false b c h = refl

abbrev pub set_of : Values → Layers → WindowSet → ReadSet
set_of rules layers low = record { rules = rules; layers = layers; low = low }

-- rules, what of a design is near to the tile, and the windows that touch it are a read set
pub read_is_set : (rules held : Values) (layers : Layers) (given pieces : Pieces) (low part : List Sides) (tile : ℕ) → held ≡ rules → pieces ≡ given
    → layers_of given ≡ layers_near (plan_of rules) layers tile
    → ((a b : ℕ) → windows_in part a b ≡ (windows_in low a b && touches (plan_of rules) tile a b))
    → set_of held (layers_of pieces) (windows_in part) ≡ read_set rules layers (windows_in low) tile
read_is_set rules held layers given pieces low part tile same at near touched =
    let read : layers_of pieces ≡ layers_near (plan_of rules) layers tile = ap layers_of at ∙ near in
    λ k. record { rules = same k; layers = read k; low = λ a b. touched a b k }

pub low_touches : (rules held : Values) (low part : List Sides) (tile : ℕ) → held ≡ rules → ((a b : ℕ) → windows_in part a b ≡ (windows_in low a b && touches (plan_of rules) tile a b)) → (a b : ℕ) → windows_in part a b ≡ true → touches (plan_of held) tile a b ≡ true
low_touches rules held low part tile same is a b h = rw same (and_parts (windows_in low a b) (touches (plan_of rules) tile a b) (sym (is a b) ∙ h)).1
