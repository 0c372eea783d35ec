-- The places of a part of a row, and the metal near to their boxes.
use Rattle.std.proofs.Common.{◌≡◌, refl, ap, ◌∙◌, ℕ, ◌+◌, ◌^◌, ◌<◌, ℤ, pos, ◌+ℤ◌, ◌-ℤ◌, ◌*ℤ◌, ◌≤ℤ◌, ◌<ℤ◌, arith, inl, inr, List, length, get_or, [], ◌∷◌, ◌++◌, replicate, Bool, true, false, ◌||◌, ◌↔◌, subst, below_more, w64, Fits, FitsSigned}
use Rattle.std.specs.Int.{int_max}
use Rattle.std.specs.Prelude.{IsTrue, int_le}
use Rattle.std.proofs.lemmas.Bool.{and_parts, or_cases}
use Rattle.std.proofs.lemmas.Int.{ints, clamps}
use Rattle.std.proofs.Math.Seq.{get_or-append_seam}
use Rattle.std.proofs.lemmas.List.{get_or-replicate, get_or_append_left, length-append}
use Rattle.fill_base.specs.Coordinates.{lowest, highest}
use Rattle.fill_base.specs.Counts.{is_between, span_len}
use Rattle.fill_base.specs.Limits.{IsSpacing, IsLength}
use Rattle.fill_base.specs.declared.rect.Rect.{Rect}
use Rattle.fill_base.proofs.Areas.{read_x1, read_x2, read_y1, read_y2}
use Rattle.fill_base.proofs.Between.{is_between_true}
use Rattle.fill_base.proofs.Signed.{read, read_is}
use Rattle.fill_raster.specs.Axes.{box_begin, box_end}
use Rattle.fill_raster.specs.Lattice.{Lattice, IsLattice, in_raster}
use Rattle.fill_raster.specs.declared.axis.Axis.{Axis}
use Rattle.fill_raster.proofs.Floors.{product_le}
use Rattle.fill_size.specs.Distance.{HasSquare}
use Rattle.fill_size.specs.Ranges.{AreRising, AreMarked}
use Rattle.fill_size.proofs.Ranges.{spacing_read}
use Rattle.fill_job.specs.Plans.{Layers, Plan, PointSet, blocked, conflicts, crowded, meets_box}
use Rattle.fill_job.specs.steps.Reaches.{reach, AreMet, AreReaches, AreTaken}
use Rattle.fill_job.proofs.Conflicts.{some_within_decides, grown_le, some_wide}
use Rattle.fill_job.proofs.LowWindows.{both_or_none}
use Rattle.fill_job.proofs.Searching.{none_passes}

-- a set meets a box where it has a square in the grown box
met_found : (r : Lattice) (s : ℤ) (p : PointSet) (i j : ℤ) → IsLattice r → IsSpacing s
    → IsTrue (meets_box r s p i j) ↔ HasSquare p (box_begin r.across i -ℤ s) (box_begin r.up j -ℤ s) (box_end r.across i +ℤ s) (box_end r.up j +ℤ s)
unfolding meets_box
met_found r s p i j raster spacing =
    some_within_decides p (box_begin r.across i -ℤ s) (box_begin r.up j -ℤ s) (box_end r.across i +ℤ s) (box_end r.up j +ℤ s)
    (grown_le (box_begin r.across i) (box_end r.across i) s (some_wide (box_begin r.across i) r.across.length raster.across.length_is) spacing.least)
    (grown_le (box_begin r.up j) (box_end r.up j) s (some_wide (box_begin r.up j) r.up.length raster.up.length_is) spacing.least)

is_le : (a b : ℤ) → int_le a b ≡ true → a ≤ℤ b
is_le a b h = grind (arith, ints)

-- the box of a place on the raster lies within the frame
box_within : (r : Lattice) (i j : ℤ) → IsLattice r → in_raster r i j ≡ true → (lowest ≤ℤ box_begin r.across i) × (box_end r.across i ≤ℤ highest)
box_within r i j is on =
    let parts = and_parts _ _ (and_parts _ _ on).0 in
    let low = is_le _ _ parts.0 in let high = is_le _ _ parts.1 in
    (le_le _ _ _ is.across.least low, le_le _ _ _ high is.across.most)
  where
    le_le : (a b c : ℤ) → a ≤ℤ b → b ≤ℤ c → a ≤ℤ c
    le_le a b c h k = omega (arith, ints, clamps)

place_in : (left right : ℤ) (a : ℕ) → left <ℤ right → a < span_len left right → is_between left right (left +ℤ pos a) ≡ true
place_in left right a some lt = is_between_true left right (left +ℤ pos a) (omega (arith, ints, clamps)) (omega (arith, ints, clamps))

grown_within : (lo hi s : ℤ) → lowest ≤ℤ lo → hi ≤ℤ highest → pos 0 ≤ℤ s → s ≤ℤ pos 1048576 → ((pos 0 -ℤ pos (2 ^ 31)) ≤ℤ (lo -ℤ s)) × ((hi +ℤ s) ≤ℤ pos (2 ^ 31))
grown_within lo hi s low high least most = (omega (arith, ints, clamps), omega (arith, ints, clamps))

grown_some : (lo n s : ℤ) → IsLength n → pos 0 ≤ℤ s → (lo -ℤ s) <ℤ ((lo +ℤ n) +ℤ s)
grown_some lo n s long least = let l : pos 1 ≤ℤ n = long.least in omega (arith, ints, clamps)

box_rises : (a : Axis) (i k s : ℤ) → IsLength a.step → i ≤ℤ k → (box_begin a i -ℤ s) ≤ℤ (box_begin a k -ℤ s)
box_rises a i k s step le = moved a.origin (i *ℤ a.step) (k *ℤ a.step) s (product_le i k a.step step.least le)
  where
    moved : (o m n s : ℤ) → m ≤ℤ n → ((o +ℤ m) -ℤ s) ≤ℤ ((o +ℤ n) -ℤ s)
    moved o m n s h = omega (arith, ints, clamps)

-- the columns that the boxes of a part of a row reach come one after the other
pub reaches_rising : (r : Lattice) (s left right j : ℤ) (reaches : List (ℤ × ℤ)) → left <ℤ right → IsLattice r → IsSpacing s → ((i : ℤ) → is_between left right i ≡ true → in_raster r i j ≡ true)
    → AreReaches r s left right reaches → AreRising reaches
reaches_rising r s left right j reaches some is spacing places are =
    record {
      some = λ a d lt. rw (are.each a d lt) (grown_some (box_begin r.across (left +ℤ pos a)) r.across.length s is.across.length_is spacing.least);
      rising = λ a b d le lt. rw (are.each a d (omega arith), are.each b d lt) (box_rises r.across (left +ℤ pos a) (left +ℤ pos b) s is.across.step_is (omega (arith, ints, clamps)));
      least = λ a d lt. rw (are.each a d lt) (grown a (rw are.count at lt)).0;
      most = λ a d lt. rw (are.each a d lt) (grown a (rw are.count at lt)).1;
    }
  where
    grown : (a : ℕ) → a < span_len left right → ((pos 0 -ℤ pos (2 ^ 31)) ≤ℤ (box_begin r.across (left +ℤ pos a) -ℤ s)) × ((box_end r.across (left +ℤ pos a) +ℤ s) ≤ℤ pos (2 ^ 31))
    grown a lt =
        let w = box_within r (left +ℤ pos a) j is (places (left +ℤ pos a) (place_in left right a some lt)) in
        grown_within _ _ s w.0 w.1 spacing.least spacing.most

-- the lines that a box reaches, as the code reads them
pub lines_read : (r : Rect) (s y1 y2 : ℤ) → IsSpacing s → y1 ≡ r.y1 → y2 ≡ r.y2 → (read (read y1 -ℤ read s) ≡ r.y1 -ℤ s) × (read (read y2 +ℤ read s) ≡ r.y2 +ℤ s)
lines_read r s y1 y2 is e1 e2 =
    let least = is.least in let most = is.most in let low = r.bottom in let tall = r.tall in let high = r.top in
    let down : FitsSigned w64 (r.y1 -ℤ s) = omega (arith, ints, clamps) in
    let up : FitsSigned w64 (r.y2 +ℤ s) = omega (arith, ints, clamps) in
    rw (e1, e2, read_y1 r, read_y2 r, spacing_read s is) (read_is _ down, read_is _ up)

pub lines_fit : (r : Rect) (s y1 : ℤ) → IsSpacing s → y1 ≡ r.y1 → FitsSigned w64 (read y1 -ℤ read s)
lines_fit r s y1 is e1 =
    let least = is.least in let most = is.most in let low = r.bottom in let tall = r.tall in let high = r.top in
    let down : FitsSigned w64 (r.y1 -ℤ s) = omega (arith, ints, clamps) in
    rw (e1, read_y1 r, spacing_read s is) down

pub lines_fit_above : (r : Rect) (s y2 : ℤ) → IsSpacing s → y2 ≡ r.y2 → FitsSigned w64 (read y2 +ℤ read s)
lines_fit_above r s y2 is e2 =
    let least = is.least in let most = is.most in let low = r.bottom in let tall = r.tall in let high = r.top in
    let up : FitsSigned w64 (r.y2 +ℤ s) = omega (arith, ints, clamps) in
    rw (e2, read_y2 r, spacing_read s is) up

pub lines_ordered : (r : Rect) (s : ℤ) → IsSpacing s → (r.y1 -ℤ s) ≤ℤ (r.y2 +ℤ s)
lines_ordered r s is = grown_le r.y1 r.y2 s r.tall is.least

pub first_in : (left right : ℤ) → left <ℤ right → is_between left right left ≡ true
first_in left right lt = is_between_true left right left (omega (arith, ints, clamps)) lt

-- the ranges that meet a set are those of the places whose boxes it meets
pub met_places : (r : Lattice) (s : ℤ) (p : PointSet) (left right j : ℤ) (reaches : List (ℤ × ℤ)) (old new : List Bool) → IsLattice r → IsSpacing s → AreReaches r s left right reaches
    → length old ≡ span_len left right → length new ≡ span_len left right
    → AreMarked (λ lo hi. HasSquare p lo (box_begin r.up j -ℤ s) hi (box_end r.up j +ℤ s)) reaches old new → AreMet r s p left j old new
met_places r s p left right j reaches old new is spacing are count same marked a m lt =
    let d : ℤ × ℤ = (pos 0, pos 0) in
    let inner : a < length reaches = omega (arith, are.count, same, lt) in
    let found = met_found r s p (left +ℤ pos a) j is spacing in
    let test = marked a d m inner in
    both_or_none (get_or new a m) (get_or old a m || meets_box r s p (left +ℤ pos a) j)
    (λ h. elim (test.0 h) [
      | inl before ↦ rw before refl
      | inr square ↦ or_right (get_or old a m) _ (found.1 (rw (are.each a d inner) at square))
    ])
    (λ h. test.1 (elim (or_cases (get_or old a m) (meets_box r s p (left +ℤ pos a) j) h) [
      | inl before ↦ inl before
      | inr met ↦ inr (rw (are.each a d inner) (found.0 met))
    ]))
  where
    or_right : (a b : Bool) → b ≡ true → a || b ≡ true
    or_right true b h = refl
    or_right false b h = h

-- where nothing was marked before, those that metal is near to, then those that existing fill is near to and then those that
-- keep-outs share a square with are the taken ones
pub taken_places : (plan : Plan) (layers : Layers) (left j : ℤ) (n : ℕ) (near more taken : List Bool) → length near ≡ n → length more ≡ n → length taken ≡ n
    → AreMet plan.raster plan.spacing layers.metal left j (replicate n false) near → AreMet plan.raster plan.fill_spacing layers.fill left j near more → AreMet plan.raster (pos 0) layers.keep left j more taken
    → AreTaken plan layers left j taken
taken_places plan layers left j n near more taken count many same metal fill keep a m lt =
    let none : get_or (replicate n false) a m ≡ false = get_or-replicate n a false m (omega (arith, same, lt)) in
    let first : get_or near a m ≡ conflicts plan layers.metal (left +ℤ pos a) j = metal a m (omega (arith, count, same, lt)) ∙ rw none refl in
    keep a m lt ∙ ap (λ b. b || blocked plan layers.keep (left +ℤ pos a) j) (fill a m (omega (arith, many, same, lt)) ∙ ap (λ b. b || crowded plan layers.fill (left +ℤ pos a) j) first)

-- a set without squares meets no box
pub none_met : (r : Lattice) (s : ℤ) (p : PointSet) (left j : ℤ) (marks : List Bool) → ((x y : ℤ) → p x y ≡ false) → AreMet r s p left j marks marks
unfolding meets_box
none_met r s p left j marks none a m lt =
    let i = left +ℤ pos a in
    let off = none_passes p (box_begin r.across i -ℤ s) (box_begin r.up j -ℤ s) (box_end r.across i +ℤ s) (box_end r.up j +ℤ s) none in
    rw off (or_no (get_or marks a m))
  where
    or_no : (b : Bool) → b ≡ b || false
    or_no true = refl
    or_no false = refl

-- ---- the index of a place from the first of its part of a row

pub no_index : (left : ℤ) → pos 0 ≡ left -ℤ left
no_index left = omega (arith, ints, clamps)

pub index_within : (left right i : ℤ) (index n : ℕ) → pos index ≡ i -ℤ left → i <ℤ right → n ≡ span_len left right → index < n
index_within left right i index n is lt count = omega (arith, ints, clamps, count, is)

pub index_place : (left i : ℤ) (index : ℕ) → pos index ≡ i -ℤ left → left +ℤ pos index ≡ i
index_place left i index is = omega (arith, ints, clamps, is)

pub index_fits : (left right i : ℤ) (index : ℕ) → FitsSigned w64 left → FitsSigned w64 right → pos index ≡ i -ℤ left → i <ℤ right → Fits w64 (index + 1)
index_fits left right i index fl fr is lt = omega (arith, ints, clamps, is)

pub next_index : (left i : ℤ) (index : ℕ) → pos index ≡ i -ℤ left → pos (index + 1) ≡ (i +ℤ pos 1) -ℤ left
next_index left i index is = omega (arith, ints, clamps, is)

-- ---- the columns that boxes reach, one place after the other

columns_read : (r : Rect) (s x1 x2 : ℤ) → IsSpacing s → x1 ≡ r.x1 → x2 ≡ r.x2 → (read (read x1 -ℤ read s) ≡ r.x1 -ℤ s) × (read (read x2 +ℤ read s) ≡ r.x2 +ℤ s)
columns_read r s x1 x2 is e1 e2 =
    let least = is.least in let most = is.most in let low = r.left in let wide = r.wide in let high = r.right in
    let down : FitsSigned w64 (r.x1 -ℤ s) = omega (arith, ints, clamps) in
    let up : FitsSigned w64 (r.x2 +ℤ s) = omega (arith, ints, clamps) in
    rw (e1, e2, read_x1 r, read_x2 r, spacing_read s is) (read_is _ down, read_is _ up)

pub columns_fit : (r : Rect) (s x1 : ℤ) → IsSpacing s → x1 ≡ r.x1 → FitsSigned w64 (read x1 -ℤ read s)
columns_fit r s x1 is e1 =
    let least = is.least in let most = is.most in let low = r.left in let wide = r.wide in let high = r.right in
    let down : FitsSigned w64 (r.x1 -ℤ s) = omega (arith, ints, clamps) in
    rw (e1, read_x1 r, spacing_read s is) down

abbrev pair : ℤ → ℤ → ℤ × ℤ
pair a b = (a, b)

pub reach_more : (g : Lattice) (left i : ℤ) (reaches new : List (ℤ × ℤ)) (r : Rect) (s x1 x2 : ℤ) → AreReaches g s left i reaches → left ≤ℤ i → IsSpacing s
    → r.x1 ≡ box_begin g.across i → r.x2 ≡ box_end g.across i → x1 ≡ r.x1 → x2 ≡ r.x2 → new ≡ reaches ++ pair (read (read x1 -ℤ read s)) (read (read x2 +ℤ read s)) ∷ [] → AreReaches g s left (i +ℤ pos 1) new
reach_more g left i reaches new r s x1 x2 are le is left_is right_is e1 e2 new_is =
    let n : i ≡ left +ℤ pos (length reaches) = place_of i (length reaches) le are.count in
    let columns = columns_read r s x1 x2 is e1 e2 in
    let put : pair (read (read x1 -ℤ read s)) (read (read x2 +ℤ read s)) ≡ reach g s i = rw (columns.0, columns.1, left_is, right_is) refl in
    let now : new ≡ reaches ++ reach g s i ∷ [] = rw put at new_is in
    record {
      count = ap length now ∙ (length-append reaches (reach g s i ∷ []) ∙ longer (length reaches) le are.count);
      each = λ a d lt. rw now (below_more (λ b. (e : ℤ × ℤ) → get_or (reaches ++ reach g s i ∷ []) b e ≡ reach g s (left +ℤ pos b)) (length reaches)
          (λ b lower e. get_or_append_left reaches (reach g s i ∷ []) e b lower ∙ are.each b e lower)
          (λ e. get_or-append_seam reaches (reach g s i) [] e ∙ ap (reach g s) n)
          a (rw (ap length now ∙ length-append reaches (reach g s i ∷ [])) at lt) d);
    }
  where
    place_of : (i : ℤ) (n : ℕ) → left ≤ℤ i → n ≡ span_len left i → i ≡ left +ℤ pos n
    place_of i n le count = omega (arith, ints, clamps, count)

    longer : (n : ℕ) → left ≤ℤ i → n ≡ span_len left i → n + 1 ≡ span_len left (i +ℤ pos 1)
    longer n le count = omega (arith, ints, clamps, count)

pub reaches_all : (r : Lattice) (s left right i : ℤ) (reaches : List (ℤ × ℤ)) → left <ℤ right → i ≤ℤ int_max left right → right ≤ℤ i → AreReaches r s left i reaches → AreReaches r s left right reaches
reaches_all r s left right i reaches some most past are = let is : i ≡ right = omega (arith, ints, clamps) in subst (λ x. AreReaches r s left x reaches) is are
