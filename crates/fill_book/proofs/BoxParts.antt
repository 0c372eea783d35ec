-- The boxes of some places, as sets of squares of which one is part of the other.
use Rattle.std.proofs.Common.{◌≡◌, refl, ap, sym, subst, ◌∙◌, ℕ, ◌+◌, ℤ, ◌≤ℤ◌, arith, inl, inr, List, Bool, true, false, cond, ◌&&◌, ◌||◌}
use Rattle.std.specs.Prelude.{not, ◌==◌}
use Rattle.std.proofs.Math.Path.{fun_ext}
use Rattle.std.proofs.lemmas.Bool.{and_from, and_parts, cases_Bool}
use Rattle.fill_base.specs.Counts.{is_between, span_len}
use Rattle.fill_base.proofs.Between.{is_between_bounds}
use Rattle.fill_area.proofs.Measuring.{longer}
use Rattle.fill_area.specs.Density.{AreMeasured, window_area}
use Rattle.fill_area.specs.Grid.{Grid, IsGrid, parts_across, parts_up, window_left, window_right, window_bottom, window_top}
use Rattle.fill_area.specs.Parts.{part_begin, part_end}
use Rattle.fill_raster.specs.Axes.{first, past, is_on}
use Rattle.fill_raster.specs.Lattice.{Lattice, IsLattice, box_squares, in_raster, in_tile, tile_of}
use Rattle.fill_raster.proofs.Ranges.{both, first_past, on_range}
use Rattle.fill_raster.specs.Marks.{Marked, is_marked}
use Rattle.fill_sums.specs.declared.moving.Way.TheVariants.{Up, Down}
use Rattle.fill_sums.specs.Numbers.{IsMovedBy, StaysBy}
use Rattle.fill_sums.proofs.Counted.{part_ordered}
use Rattle.fill_sums.proofs.Following.{AreParts, down_measured, down_stays, up_measured, up_stays}
use Rattle.fill_job.specs.Plans.{PointSet}
use Rattle.fill_job.specs.Searches.{some_within}
use Rattle.fill_job.proofs.Conflicts.{some_within_decides}
use Rattle.fill_state.specs.Filling.{Filling, IsFilling, KeepsClear, boxes_of, in_places, is_filled, left_by, drawn_or_box}
use Rattle.fill_state.specs.declared.places.Places.{Places}
use Rattle.fill_state.proofs.Nearby.{filled_on, left_apart}
use Rattle.fill_book.specs.steps.Following.{taken_at, taken_of_rows}
use Rattle.fill_state.specs.steps.Taken.{AreApart}
use Rattle.fill_state.proofs.BoxAreas.{boxes_area, sum_swap}

-- ---- places and squares

-- a place of the set whose box holds the square
pub record HasPlace (r : Lattice) (fill : PointSet) (x y : ℤ) : Type 0 where
  pub i : ℤ
  pub j : ℤ
  pub filled : fill i j ≡ true
  pub box : box_squares r i j x y ≡ true

pub place_of : (r : Lattice) (fill : PointSet) (x y : ℤ) → boxes_of r fill x y ≡ true → HasPlace r fill x y
place_of r fill x y h =
    let f = (some_within_decides (λ i j. fill i j && box_squares r i j x y) (first r.across) (first r.up) (past r.across) (past r.up) (first_past r.across) (first_past r.up)).0 h in
    let p = and_parts (fill f.x f.y) (box_squares r f.x f.y x y) f.square in
    record { i = f.x; j = f.y; filled = p.0; box = p.1 }

-- every place of the set is on the raster
pub record AreOn (r : Lattice) (fill : PointSet) : Type 0 where
  pub lattice : IsLattice r
  pub on : (i j : ℤ) → fill i j ≡ true → in_raster r i j ≡ true

pub place_in : (r : Lattice) (fill : PointSet) (x y : ℤ) → AreOn r fill → HasPlace r fill x y → boxes_of r fill x y ≡ true
place_in r fill x y are p =
    let on = and_parts (is_on r.across p.i) (is_on r.up p.j) (are.on p.i p.j p.filled) in
    let across = is_between_bounds _ _ p.i (sym (on_range r.across p.i are.lattice.across.step_is.least) ∙ on.0) in
    let up = is_between_bounds _ _ p.j (sym (on_range r.up p.j are.lattice.up.step_is.least) ∙ on.1) in
    (some_within_decides (λ i j. fill i j && box_squares r i j x y) (first r.across) (first r.up) (past r.across) (past r.up) (first_past r.across) (first_past r.up)).1
    (record { x = p.i; y = p.j; square = and_from _ _ p.filled p.box; from_left = across.0; to_right = across.1; from_bottom = up.0; to_top = up.1 })

-- ---- a set of places that is two others

pub record AreTwo (fill left moved : PointSet) : Type 0 where
  pub either : (i j : ℤ) → fill i j ≡ left i j || moved i j
  pub apart : (i j : ℤ) → left i j ≡ true → moved i j ≡ true → ⊥

or_left : (a b : Bool) → a ≡ true → a || b ≡ true
or_left a b h = rw h refl

or_right : (a b : Bool) → b ≡ true → a || b ≡ true
or_right true b h = refl
or_right false b h = h

boxes_either : (r : Lattice) (fill left moved : PointSet) (x y : ℤ) → AreOn r fill → AreTwo fill left moved → boxes_of r fill x y ≡ boxes_of r left x y || boxes_of r moved x y
boxes_either r fill left moved x y are two = both _ _
    (λ h. let p = place_of r fill x y h in elim (cases_Bool (left p.i p.j)) [
      | inl stays ↦ or_left _ _ (place_in r left x y (left_on) (record { i = p.i; j = p.j; filled = stays; box = p.box }))
      | inr goes ↦ or_right _ _ (place_in r moved x y (moved_on) (record { i = p.i; j = p.j; filled = rest (left p.i p.j) (moved p.i p.j) (sym (two.either p.i p.j) ∙ p.filled) goes; box = p.box }))
    ])
    (λ h. elim (cases_Bool (boxes_of r left x y)) [
      | inl stays ↦ let p = place_of r left x y stays in place_in r fill x y are (record { i = p.i; j = p.j; filled = two.either p.i p.j ∙ or_left _ _ p.filled; box = p.box })
      | inr out ↦ let p = place_of r moved x y (rest (boxes_of r left x y) (boxes_of r moved x y) h out) in place_in r fill x y are (record { i = p.i; j = p.j; filled = two.either p.i p.j ∙ or_right _ _ p.filled; box = p.box })
    ])
  where
    rest : (a b : Bool) → a || b ≡ true → a ≡ false → b ≡ true
    rest true b h k = let e : true ≡ false = k in cc
    rest false b h k = h

    left_on : AreOn r left
    left_on = record { lattice = are.lattice; on = λ i j h. are.on i j (two.either i j ∙ or_left _ _ h) }

    moved_on : AreOn r moved
    moved_on = record { lattice = are.lattice; on = λ i j h. are.on i j (two.either i j ∙ or_right _ _ h) }

-- so are the squares of what is drawn and of boxes
pub box_parts : (r : Lattice) (fill left moved drawn : PointSet) → AreOn r fill → AreTwo fill left moved → AreApart r fill → KeepsClear r fill drawn → AreParts (drawn_or_box r fill drawn) (drawn_or_box r left drawn) (boxes_of r moved)
box_parts r fill left moved drawn are two apart clear = record {
  each = λ x y.
      let e = boxes_either r fill left moved x y are two in
      ap (λ b. cond (drawn x y || b) 1 0) e
      ∙ one (drawn x y) (boxes_of r left x y) (boxes_of r moved x y)
      (λ m b. clear x y m (e ∙ or_right _ _ b))
      (λ l b. let p = place_of r left x y l in let q = place_of r moved x y b in
      let here = two.either p.i p.j ∙ or_left _ _ p.filled in let there = two.either q.i q.j ∙ or_right _ _ q.filled in
      let column = apart.columns p.i p.j q.i q.j x y here there p.box q.box in let row = apart.rows p.i p.j q.i q.j x y here there p.box q.box in
      two.apart q.i q.j (rw (column, row) at p.filled) q.filled);
}
  where
    one : (m l b : Bool) → (m ≡ true → b ≡ true → ⊥) → (l ≡ true → b ≡ true → ⊥) → cond (m || (l || b)) 1 0 ≡ cond (m || l) 1 0 + cond b 1 0
    one true l true h k = absurd (h refl refl)
    one true l false h k = refl
    one false true true h k = absurd (k refl refl)
    one false true false h k = refl
    one false false b h k = plus (cond b 1 0)
      where
        plus : (n : ℕ) → n ≡ 0 + n
        plus n = omega arith

-- ---- what the boxes of places between two columns and two rows take

pub between_all : (r : Lattice) (fill : PointSet) (left right bottom top x y : ℤ) → AreOn r fill → left ≤ℤ right → bottom ≤ℤ top → ((i j : ℤ) → fill i j ≡ true → is_between left right i && is_between bottom top j ≡ true)
    → some_within (λ i j. fill i j && box_squares r i j x y) left bottom right top ≡ boxes_of r fill x y
between_all r fill left right bottom top x y are wide tall inside =
    let some = some_within_decides (λ i j. fill i j && box_squares r i j x y) left bottom right top wide tall in
    both _ _
    (λ h. let f = some.0 h in let p = and_parts (fill f.x f.y) (box_squares r f.x f.y x y) f.square in place_in r fill x y are (record { i = f.x; j = f.y; filled = p.0; box = p.1 }))
    (λ h.
    let p = place_of r fill x y h in
    let b = and_parts (is_between left right p.i) (is_between bottom top p.j) (inside p.i p.j p.filled) in
    let across = is_between_bounds _ _ p.i b.0 in let up = is_between_bounds _ _ p.j b.1 in
    some.1 (record { x = p.i; y = p.j; square = and_from _ _ p.filled p.box; from_left = across.0; to_right = across.1; from_bottom = up.0; to_top = up.1 }))

pub rows_taken : (r : Lattice) (fill : PointSet) (g : Grid) (left right bottom top : ℤ) → IsGrid g → AreOn r fill → AreApart r fill → left ≤ℤ right → bottom ≤ℤ top → ((i j : ℤ) → fill i j ≡ true → is_between left right i && is_between bottom top j ≡ true)
    → taken_of_rows r fill g left right bottom top ≡ window_area (boxes_of r fill) g
rows_taken r fill g left right bottom top is are apart wide tall inside = fun_ext (λ a. fun_ext (λ b. sym (here a b)))
  where
    same : boxes_of r fill ≡ (λ x y. some_within (λ i j. fill i j && box_squares r i j x y) left bottom right top)
    same = fun_ext (λ x. fun_ext (λ y. sym (between_all r fill left right bottom top x y are wide tall inside)))

    here : (a b : ℕ) → window_area (boxes_of r fill) g a b ≡ taken_of_rows r fill g left right bottom top a b
    here a b =
        ap (λ (p : PointSet). window_area p g a b) same
        ∙ (boxes_area r fill left bottom right top (part_begin (parts_across g) a) (part_begin (parts_up g) b) (part_end (parts_across g) a) (part_end (parts_up g) b)
        (part_ordered g.clip.left g.clip.right (window_left g a) (window_right g a) (longer (window_left g a) g.across.length is.across.length_is))
        (part_ordered g.clip.bottom g.clip.top (window_bottom g b) (window_top g b) (longer (window_bottom g b) g.up.length is.up.length_is)) apart
        ∙ sum_swap (λ i j. taken_at r fill g i j a b) left (span_len left right) bottom (span_len bottom top))

-- ---- the same set, told otherwise

pub same_squares : (r q : Lattice) (f g drawn : PointSet) → q ≡ r → ((i j : ℤ) → g i j ≡ f i j) → drawn_or_box r f drawn ≡ drawn_or_box q g drawn
same_squares r q f g drawn raster fill = let e : g ≡ f = fun_ext (λ i. fun_ext (λ j. fill i j)) in rw (raster, e) refl

-- ---- places that come to others, or go from them

pub record AreMovedIn (r : Lattice) (fill left moved drawn : PointSet) (from to bottom top : ℤ) : Type 0 where
  pub on : AreOn r fill
  pub two : AreTwo fill left moved
  pub apart : AreApart r fill
  pub clear : KeepsClear r fill drawn
  pub wide : from ≤ℤ to
  pub tall : bottom ≤ℤ top
  pub inside : (i j : ℤ) → moved i j ≡ true → is_between from to i && is_between bottom top j ≡ true

moved_taken : (r : Lattice) (fill left moved drawn : PointSet) (from to bottom top : ℤ) (g : Grid) → IsGrid g → AreMovedIn r fill left moved drawn from to bottom top → taken_of_rows r moved g from to bottom top ≡ window_area (boxes_of r moved) g
moved_taken r fill left moved drawn from to bottom top g grid are =
    rows_taken r moved g from to bottom top grid
    (record { lattice = are.on.lattice; on = λ i j h. are.on.on i j (are.two.either i j ∙ or_right _ _ h) })
    (record {
      columns = λ i j k l x y f h. are.apart.columns i j k l x y (are.two.either i j ∙ or_right _ _ f) (are.two.either k l ∙ or_right _ _ h);
      rows = λ i j k l x y f h. are.apart.rows i j k l x y (are.two.either i j ∙ or_right _ _ f) (are.two.either k l ∙ or_right _ _ h);
    }) are.wide are.tall are.inside

parts_of : (r : Lattice) (fill left moved drawn : PointSet) (from to bottom top : ℤ) → AreMovedIn r fill left moved drawn from to bottom top → AreParts (drawn_or_box r fill drawn) (drawn_or_box r left drawn) (boxes_of r moved)
parts_of r fill left moved drawn from to bottom top are = box_parts r fill left moved drawn are.on are.two are.apart are.clear

pub rows_come : (r : Lattice) (fill left moved drawn : PointSet) (from to bottom top : ℤ) (g : Grid) (numbers : List ℤ) → AreMovedIn r fill left moved drawn from to bottom top → AreMeasured (drawn_or_box r left drawn) g numbers
    → StaysBy Up (taken_of_rows r moved g from to bottom top) g numbers
rows_come r fill left moved drawn from to bottom top g numbers are measured =
    subst (λ (f : ℕ → ℕ → ℕ). StaysBy Up f g numbers) (sym (moved_taken r fill left moved drawn from to bottom top g measured.grid are)) (up_stays _ _ (boxes_of r moved) g numbers measured (parts_of r fill left moved drawn from to bottom top are))

pub rows_come_measured : (r : Lattice) (fill left moved drawn : PointSet) (from to bottom top : ℤ) (g : Grid) (old new : List ℤ) → AreMovedIn r fill left moved drawn from to bottom top → AreMeasured (drawn_or_box r left drawn) g old
    → IsMovedBy Up (taken_of_rows r moved g from to bottom top) g old new → AreMeasured (drawn_or_box r fill drawn) g new
rows_come_measured r fill left moved drawn from to bottom top g old new are measured is =
    up_measured _ _ (boxes_of r moved) g old new measured (parts_of r fill left moved drawn from to bottom top are) (subst (λ (f : ℕ → ℕ → ℕ). IsMovedBy Up f g old new) (moved_taken r fill left moved drawn from to bottom top g measured.grid are) is)

pub rows_go : (r : Lattice) (fill left moved drawn : PointSet) (from to bottom top : ℤ) (g : Grid) (numbers : List ℤ) → AreMovedIn r fill left moved drawn from to bottom top → AreMeasured (drawn_or_box r fill drawn) g numbers
    → StaysBy Down (taken_of_rows r moved g from to bottom top) g numbers
rows_go r fill left moved drawn from to bottom top g numbers are measured =
    subst (λ (f : ℕ → ℕ → ℕ). StaysBy Down f g numbers) (sym (moved_taken r fill left moved drawn from to bottom top g measured.grid are)) (down_stays _ _ (boxes_of r moved) g numbers measured (parts_of r fill left moved drawn from to bottom top are))

pub rows_go_measured : (r : Lattice) (fill left moved drawn : PointSet) (from to bottom top : ℤ) (g : Grid) (old new : List ℤ) → AreMovedIn r fill left moved drawn from to bottom top → AreMeasured (drawn_or_box r fill drawn) g old
    → IsMovedBy Down (taken_of_rows r moved g from to bottom top) g old new → AreMeasured (drawn_or_box r left drawn) g new
rows_go_measured r fill left moved drawn from to bottom top g old new are measured is =
    down_measured _ _ (boxes_of r moved) g old new measured (parts_of r fill left moved drawn from to bottom top are) (subst (λ (f : ℕ → ℕ → ℕ). IsMovedBy Down f g old new) (moved_taken r fill left moved drawn from to bottom top g measured.grid are) is)

-- ---- the places of a book

-- marked places that come to the filled ones
pub marks_come : (f : Filling) (m : Marked) (drawn : PointSet) (from to bottom top : ℤ) → IsFilling f → from ≤ℤ to → bottom ≤ℤ top → ((i j : ℤ) → is_marked m i j ≡ true → is_between from to i && is_between bottom top j ≡ true)
    → ((i j : ℤ) → is_marked m i j ≡ true → in_raster f.raster i j ≡ true) → KeepsClear f.raster (λ i j. is_filled f i j || is_marked m i j) drawn
    → AreMovedIn f.raster (λ i j. is_filled f i j || is_marked m i j) (is_filled f) (λ i j. is_marked m i j && not (is_filled f i j)) drawn from to bottom top
marks_come f m drawn from to bottom top is wide tall within on clear = record {
  on = record {
    lattice = is.raster;
    on = λ i j h. elim (cases_Bool (is_filled f i j)) [
      | inl filled ↦ filled_on f i j filled
      | inr out ↦ on i j (rest _ _ h out)
    ];
  };
  two = record { either = λ i j. either (is_filled f i j) (is_marked m i j); apart = λ i j h k. no (is_filled f i j) (is_marked m i j) h k };
  apart = left_apart f _ is;
  clear = clear;
  wide = wide;
  tall = tall;
  inside = λ i j h. within i j (and_parts (is_marked m i j) (not (is_filled f i j)) h).0;
}
  where
    rest : (a b : Bool) → a || b ≡ true → a ≡ false → b ≡ true
    rest true b h k = let e : true ≡ false = k in cc
    rest false b h k = h

    either : (a b : Bool) → a || b ≡ a || (b && not a)
    either true b = refl
    either false true = refl
    either false false = refl

    no : (a b : Bool) → a ≡ true → b && not a ≡ true → ⊥
    no true true h k = let e : false ≡ true = k in cc
    no true false h k = let e : false ≡ true = k in cc
    no false b h k = let e : false ≡ true = h in cc

-- the same, told by the marks of the tile that the places are of
pub tile_marks_come : (f : Filling) (of m : Marked) (drawn : PointSet) (tile : ℕ) (from to bottom top : ℤ) → IsFilling f → from ≤ℤ to → bottom ≤ℤ top → ((i j : ℤ) → is_between from to i && is_between bottom top j ≡ in_tile f.raster tile i j)
    → ((i j : ℤ) → is_marked of i j ≡ in_tile f.raster tile i j && is_filled f i j) → ((i j : ℤ) → is_marked m i j ≡ true → in_tile f.raster tile i j ≡ true) → KeepsClear f.raster (λ i j. is_filled f i j || is_marked m i j) drawn
    → AreMovedIn f.raster (λ i j. is_filled f i j || is_marked m i j) (is_filled f) (λ i j. is_marked m i j && not (is_marked of i j)) drawn from to bottom top
tile_marks_come f of m drawn tile from to bottom top is wide tall places marked within clear =
    let new : PointSet = λ i j. is_marked m i j && not (is_marked of i j) in
    let old : PointSet = λ i j. is_marked m i j && not (is_filled f i j) in
    let same : new ≡ old = fun_ext (λ i. fun_ext (λ j. ap (λ b. is_marked m i j && not b) (marked i j) ∙ here (is_marked m i j) (in_tile f.raster tile i j) (is_filled f i j) (within i j))) in
    subst (λ (p : PointSet). AreMovedIn f.raster (λ i j. is_filled f i j || is_marked m i j) (is_filled f) p drawn from to bottom top) (sym same)
    (marks_come f m drawn from to bottom top is wide tall (λ i j h. places i j ∙ within i j h) (λ i j h. (and_parts (in_raster f.raster i j) (tile_of f.raster i j == tile) (within i j h)).0) clear)
  where
    here : (m t f : Bool) → (m ≡ true → t ≡ true) → m && not (t && f) ≡ m && not f
    here true true f h = refl
    here true false f h = let e : false ≡ true = h refl in cc
    here false t f h = refl

-- filled places that go
pub places_go : (f : Filling) (p : Places) (drawn : PointSet) → IsFilling f → p.columns.start ≤ℤ p.columns.end → p.rows.start ≤ℤ p.rows.end → KeepsClear f.raster (is_filled f) drawn
    → AreMovedIn f.raster (is_filled f) (left_by f p) (λ i j. is_filled f i j && in_places p i j) drawn p.columns.start p.columns.end p.rows.start p.rows.end
places_go f p drawn is wide tall clear = record {
  on = record { lattice = is.raster; on = filled_on f };
  two = record { either = λ i j. either (is_filled f i j) (in_places p i j); apart = λ i j h k. no (is_filled f i j) (in_places p i j) h k };
  apart = left_apart f _ is;
  clear = clear;
  wide = wide;
  tall = tall;
  inside = λ i j h. (and_parts (is_filled f i j) (in_places p i j) h).1;
}
  where
    either : (a b : Bool) → a ≡ (a && not b) || (a && b)
    either true true = refl
    either true false = refl
    either false b = refl

    no : (a b : Bool) → a && not b ≡ true → a && b ≡ true → ⊥
    no true true h k = let e : false ≡ true = h in cc
    no true false h k = let e : false ≡ true = k in cc
    no false b h k = let e : false ≡ true = h in cc

-- what keeps clear of all boxes keeps clear of some
pub fewer_clear : (r : Lattice) (fill left moved drawn : PointSet) → AreOn r fill → AreTwo fill left moved → KeepsClear r fill drawn → KeepsClear r left drawn
fewer_clear r fill left moved drawn on two clear x y here box = clear x y here (boxes_either r fill left moved x y on two ∙ or_left _ _ box)
