-- Boxes that are not near a window take nothing of it, and boxes of filled places share no square.
use Rattle.std.proofs.Common.{◌≡◌, refl, sym, ◌∙◌, ℕ, ℤ, pos, ◌+ℤ◌, ◌-ℤ◌, ◌≤ℤ◌, ◌<ℤ◌, arith, inl, inr, Bool, true, false, ◌&&◌}
use Rattle.std.specs.Prelude.{int_lt, not}
use Rattle.std.specs.Ordering.{int_eq}
use Rattle.std.proofs.lemmas.Bool.{and_from, and_parts, cases_Bool}
use Rattle.std.proofs.lemmas.Bool.Decides.{Decides-int_eq}
use Rattle.std.proofs.lemmas.Int.{ints, clamps}
use Rattle.fill_base.specs.Counts.{is_between, sum_between}
use Rattle.fill_base.specs.Squares.{area_of, squares}
use Rattle.fill_base.specs.declared.rect.Rect.{Rect}
use Rattle.fill_base.proofs.Between.{is_between_bounds}
use Rattle.fill_base.proofs.Counting.{sum_between_const, sum_between_same}
use Rattle.fill_raster.specs.Axes.{box_begin, box_end, first, past, is_on, is_on_within}
use Rattle.fill_raster.specs.Lattice.{Lattice, box_squares, in_raster, is_near, tile_of}
use Rattle.fill_raster.specs.Laws.{KeepsGap}
use Rattle.fill_raster.specs.Marks.{is_marked}
use Rattle.fill_raster.specs.declared.axis.Axis.{Axis}
use Rattle.fill_raster.proofs.RasterLaws.{spacing_kept}
use Rattle.fill_raster.proofs.Ranges.{first_past}
use Rattle.fill_job.specs.Plans.{PointSet}
use Rattle.fill_state.specs.Filling.{Filling, IsFilling, boxes_of, in_places, is_filled, left_by, marks_of}
use Rattle.fill_state.specs.declared.places.Places.{Places}
use Rattle.fill_state.specs.steps.Taken.{AreApart, taken_in, taken_by_row, taken_by_rows}
use Rattle.fill_state.proofs.BoxAreas.{sum_part}
use Rattle.fill_state.proofs.BoxSums.{rows_are}
use Rattle.fill_area.proofs.SharedAreas.{none_within}

not_true : (b : Bool) → (b ≡ true → ⊥) → b ≡ false
not_true true h = absurd (h refl)
not_true false h = refl

cc_no : (b : Bool) → b ≡ true → b ≡ false → ⊥
cc_no b h k = let e : true ≡ false = sym h ∙ k in cc

-- ---- boxes off the window

within_reach : (a : Axis) (low high i x : ℤ) → is_on a i ≡ true → is_between (box_begin a i) (box_end a i) x ≡ true → is_between low high x ≡ true → is_on_within a (low -ℤ pos 0) (high +ℤ pos 0) i ≡ true
within_reach a low high i x on box at =
    let b = is_between_bounds (box_begin a i) (box_end a i) x box in
    let w = is_between_bounds low high x at in
    and_from _ _ on (and_from _ _ (over low x (box_end a i) w.0 b.1) (under (box_begin a i) x high b.0 w.1))
  where
    over : (low x e : ℤ) → low ≤ℤ x → x <ℤ e → int_lt (low -ℤ pos 0) e ≡ true
    over low x e h k = grind (arith, ints)

    under : (b x high : ℤ) → b ≤ℤ x → x <ℤ high → int_lt b (high +ℤ pos 0) ≡ true
    under b x high h k = grind (arith, ints)

far : (r : Lattice) (fill : PointSet) (w : Rect) (i j : ℤ) → (fill i j ≡ true → in_raster r i j ≡ true) → is_near r w (pos 0) i j ≡ false → taken_in r fill w i j ≡ 0
far r fill w i j on off = elim (cases_Bool (fill i j)) [
  | inr out ↦ rw out refl
  | inl filled ↦ rw filled (none_within (box_squares r i j) w (λ x y. not_true _ (λ both.
      let at = and_parts (box_squares r i j x y) (squares w x y) both in
      let box = and_parts _ _ at.0 in let in_w = and_parts _ _ at.1 in let place = and_parts _ _ (on filled) in
      cc_no (is_near r w (pos 0) i j) (and_from _ _ (within_reach r.across w.x1 w.x2 i x place.0 box.0 in_w.0) (within_reach r.up w.y1 w.y2 j y place.1 box.1 in_w.1)) off)))
]

sum_zero : (f : ℤ → ℕ) (lo hi : ℤ) → lo ≤ℤ hi → ((i : ℤ) → f i ≡ 0) → sum_between f lo hi ≡ 0
sum_zero f lo hi le each = let all = sum_between_const f lo hi 0 le (λ x l h. each x) in omega (arith, all)

and_no : (b : Bool) → b && false ≡ false
and_no true = refl
and_no false = refl

-- the places that are near take all that boxes take
pub near_are_all : (r : Lattice) (fill : PointSet) (w : Rect) (left right bottom top : ℤ) → AreApart r fill → ((i j : ℤ) → fill i j ≡ true → in_raster r i j ≡ true)
    → first r.across ≤ℤ left → left ≤ℤ right → right ≤ℤ past r.across → first r.up ≤ℤ bottom → bottom ≤ℤ top → top ≤ℤ past r.up
    → ((i j : ℤ) → (is_between left right i && is_between bottom top j) ≡ is_near r w (pos 0) i j)
    → taken_by_rows r fill w left right bottom top ≡ area_of (boxes_of r fill) w
near_are_all r fill w left right bottom top apart on from across to low up high near =
    sym (rows_are r fill w (first r.across) (past r.across) (first r.up) (past r.up) apart
    ∙ (sum_between_same (λ j. taken_by_row r fill w (first r.across) (past r.across) j) (λ j. taken_by_row r fill w left right j) (first r.up) (past r.up) (first_past r.up)
    (λ j l h. sum_part (λ i. taken_in r fill w i j) (first r.across) (past r.across) left right from across to (λ i out. far r fill w i j (on i j) (sym (near i j) ∙ rw out refl)))
    ∙ sum_part (λ j. taken_by_row r fill w left right j) (first r.up) (past r.up) bottom top low up high
    (λ j out. sum_zero (λ i. taken_in r fill w i j) left right across (λ i. far r fill w i j (on i j) (sym (near i j) ∙ rw out (and_no (is_between left right i)))))))

-- ---- boxes that share no square

no_gap : (a : Axis) (i k x : ℤ) → KeepsGap a (pos 0) i k → is_between (box_begin a i) (box_end a i) x ≡ true → is_between (box_begin a k) (box_end a k) x ≡ true → ⊥
no_gap a i k x gap at to =
    let p = is_between_bounds (box_begin a i) (box_end a i) x at in let q = is_between_bounds (box_begin a k) (box_end a k) x to in
    elim gap [
      | inl before ↦ apart (box_end a i) (box_begin a k) x before p.1 q.0
      | inr behind ↦ apart (box_end a k) (box_begin a i) x behind q.1 p.0
    ]
  where
    apart : (e b x : ℤ) → (e +ℤ pos 0) ≤ℤ b → x <ℤ e → b ≤ℤ x → ⊥
    apart e b x gap under over = omega (arith, ints, clamps)

one_place : (f : Filling) → IsFilling f → (i j k l x y : ℤ) → ((i ≡ k) × (j ≡ l) → ⊥) → box_squares f.raster i j x y ≡ true → box_squares f.raster k l x y ≡ true → ⊥
one_place f is i j k l x y other at to =
    let a = and_parts _ _ at in let b = and_parts _ _ to in
    elim (spacing_kept f.raster (pos 0) is.raster is.pitch i j k l other) [
      | inl across ↦ no_gap f.raster.across i k x across a.0 b.0
      | inr up ↦ no_gap f.raster.up j l y up a.1 b.1
    ]

same_number : (i k : ℤ) → ((i ≡ k → ⊥) → ⊥) → i ≡ k
same_number i k h = elim (cases_Bool (int_eq i k)) [
  | inl same ↦ (Decides-int_eq i k).0 same
  | inr other ↦ absurd (h (λ e. cc_no (int_eq i k) ((Decides-int_eq i k).1 e) other))
]

pub left_apart : (f : Filling) (p : PointSet) → IsFilling f → AreApart f.raster p
left_apart f p is = record {
  columns = λ i j k l x y _ _ at to. same_number i k (λ ne. one_place f is i j k l x y (λ e. ne e.0) at to);
  rows = λ i j k l x y _ _ at to. same_number j l (λ ne. one_place f is i j k l x y (λ e. ne e.1) at to);
}

pub filled_on : (f : Filling) (i j : ℤ) → is_filled f i j ≡ true → in_raster f.raster i j ≡ true
filled_on f i j h = (and_parts (in_raster f.raster i j) (is_marked (marks_of f (tile_of f.raster i j)) i j) h).0

pub left_on : (f : Filling) (out : Places) (i j : ℤ) → left_by f out i j ≡ true → in_raster f.raster i j ≡ true
left_on f out i j h = filled_on f i j (and_parts (is_filled f i j) (not (in_places out i j)) h).0

pub near_on : (r : Lattice) (w : Rect) (spacing i j : ℤ) → is_near r w spacing i j ≡ true → in_raster r i j ≡ true
near_on r w spacing i j h =
    let near = and_parts (is_on_within r.across (w.x1 -ℤ spacing) (w.x2 +ℤ spacing) i) (is_on_within r.up (w.y1 -ℤ spacing) (w.y2 +ℤ spacing) j) h in
    let across = and_parts (is_on r.across i) (int_lt (w.x1 -ℤ spacing) (box_end r.across i) && int_lt (box_begin r.across i) (w.x2 +ℤ spacing)) near.0 in
    let up = and_parts (is_on r.up j) (int_lt (w.y1 -ℤ spacing) (box_end r.up j) && int_lt (box_begin r.up j) (w.y2 +ℤ spacing)) near.1 in
    and_from (is_on r.across i) (is_on r.up j) across.0 up.0
