-- Metal and existing fill that come or go, beside boxes.
use Rattle.std.proofs.Common.{◌≡◌, refl, ◌∙◌, ℕ, ◌+◌, ℤ, arith, List, Bool, true, false, cond, ◌&&◌, ◌||◌}
use Rattle.std.specs.Prelude.{not}
use Rattle.fill_base.specs.Squares.{squares}
use Rattle.fill_area.specs.Density.{AreMeasured}
use Rattle.fill_area.specs.Grid.{Grid}
use Rattle.fill_sums.specs.declared.moving.Way.{Way}
use Rattle.fill_sums.specs.Numbers.{IsMoved, StaysWithin}
use Rattle.fill_sums.proofs.Following.{AreParts, down_measured, down_stays, up_measured, up_stays}
use Rattle.fill_text.specs.declared.script.Edit.{Edit}
use Rattle.fill_text.specs.declared.script.Edit.TheVariants.{Add, Cut, Keep}
use Rattle.fill_core.specs.Machine.{metal_after}
use Rattle.fill_book.specs.steps.Following.{opposite_of, difference_by, way_of}
use Rattle.fill_job.specs.Plans.{PointSet}

-- what is added and wasn't drawn
pub added_parts : (drawn after rect new boxes : PointSet) → ((x y : ℤ) → after x y ≡ drawn x y || rect x y) → ((x y : ℤ) → new x y ≡ rect x y && not (drawn x y)) → ((x y : ℤ) → after x y ≡ true → boxes x y ≡ true → ⊥)
    → AreParts (λ x y. after x y || boxes x y) (λ x y. drawn x y || boxes x y) new
added_parts drawn after rect new boxes is part clear = record { each = λ x y. rw (is x y, part x y) (one (drawn x y) (rect x y) (boxes x y) (λ m b. clear x y (is x y ∙ m) b)) }
  where
    one : (m r b : Bool) → (m || r ≡ true → b ≡ true → ⊥) → cond ((m || r) || b) 1 0 ≡ cond (m || b) 1 0 + cond (r && not m) 1 0
    one true true b h = refl
    one true false b h = refl
    one false true true h = absurd (h refl refl)
    one false true false h = refl
    one false false b h = plus (cond b 1 0)
      where
        plus : (n : ℕ) → n ≡ n + 0
        plus n = omega arith

-- what is cut and was drawn
pub cut_parts : (drawn after rect gone boxes : PointSet) → ((x y : ℤ) → after x y ≡ drawn x y && not (rect x y)) → ((x y : ℤ) → gone x y ≡ drawn x y && rect x y) → ((x y : ℤ) → drawn x y ≡ true → boxes x y ≡ true → ⊥)
    → AreParts (λ x y. drawn x y || boxes x y) (λ x y. after x y || boxes x y) gone
cut_parts drawn after rect gone boxes is part clear = record { each = λ x y. rw (is x y, part x y) (one (drawn x y) (rect x y) (boxes x y) (clear x y)) }
  where
    one : (m r b : Bool) → (m ≡ true → b ≡ true → ⊥) → cond (m || b) 1 0 ≡ cond ((m && not r) || b) 1 0 + cond (m && r) 1 0
    one true true true h = absurd (h refl refl)
    one true true false h = refl
    one true false b h = refl
    one false r b h = plus (cond b 1 0)
      where
        plus : (n : ℕ) → n ≡ n + 0
        plus n = omega arith

-- what is drawn alone
pub added_alone : (drawn after rect new : PointSet) → ((x y : ℤ) → after x y ≡ drawn x y || rect x y) → ((x y : ℤ) → new x y ≡ rect x y && not (drawn x y)) → AreParts after drawn new
added_alone drawn after rect new is part = record { each = λ x y. rw (is x y, part x y) (one (drawn x y) (rect x y)) }
  where
    one : (m r : Bool) → cond (m || r) 1 0 ≡ cond m 1 0 + cond (r && not m) 1 0
    one true true = refl
    one true false = refl
    one false true = refl
    one false false = refl

pub cut_alone : (drawn after rect gone : PointSet) → ((x y : ℤ) → after x y ≡ drawn x y && not (rect x y)) → ((x y : ℤ) → gone x y ≡ drawn x y && rect x y) → AreParts drawn after gone
cut_alone drawn after rect gone is part = record { each = λ x y. rw (is x y, part x y) (one (drawn x y) (rect x y)) }
  where
    one : (m r : Bool) → cond m 1 0 ≡ cond (m && not r) 1 0 + cond (m && r) 1 0
    one true true = refl
    one true false = refl
    one false true = refl
    one false false = refl

-- nothing comes or goes
kept_parts : (drawn after none boxes : PointSet) → ((x y : ℤ) → after x y ≡ drawn x y) → ((x y : ℤ) → none x y ≡ false) → AreParts (λ x y. after x y || boxes x y) (λ x y. drawn x y || boxes x y) none
kept_parts drawn after none boxes is part = record { each = λ x y. rw (is x y, part x y) (plus (cond (drawn x y || boxes x y) 1 0)) }
  where
    plus : (n : ℕ) → n ≡ n + 0
    plus n = omega arith

kept_alone : (drawn after none : PointSet) → ((x y : ℤ) → after x y ≡ drawn x y) → ((x y : ℤ) → none x y ≡ false) → AreParts after drawn none
kept_alone drawn after none is part = record { each = λ x y. rw (is x y, part x y) (plus (cond (drawn x y) 1 0)) }
  where
    plus : (n : ℕ) → n ≡ n + 0
    plus n = omega arith

-- ---- an edit

-- what there was and what there is, and what came or went
abbrev pub PartsBy : Edit → PointSet → PointSet → PointSet → Type 0
PartsBy (Add rect) was is part = AreParts is was part
PartsBy (Cut rect) was is part = AreParts was is part
PartsBy (Keep rect) was is part = AreParts is was part

-- a square: whether it is metal, existing fill, and in the rectangle of an edit
added_square : (m e r : Bool) → (m || r) || e ≡ (m || e) || r
added_square true e r = refl
added_square false true true = refl
added_square false true false = refl
added_square false false true = refl
added_square false false false = refl

-- of the rectangle of a cut that goes which isn't existing fill
cut_square : (m e r : Bool) → (m && not r) || e ≡ (m || e) && not (r && not e)
cut_square true true true = refl
cut_square true true false = refl
cut_square true false true = refl
cut_square true false false = refl
cut_square false true true = refl
cut_square false true false = refl
cut_square false false r = refl

gone_square : (m e r : Bool) → (m && not e) && r ≡ (m || e) && (r && not e)
gone_square true true true = refl
gone_square true true false = refl
gone_square true false true = refl
gone_square true false false = refl
gone_square false true true = refl
gone_square false true false = refl
gone_square false false r = refl

abbrev pub either : PointSet → PointSet → PointSet
either metal existing x y = metal x y || existing x y

-- of the rectangle of a cut
abbrev bare : PointSet → PointSet → PointSet
bare rect existing x y = rect x y && not (existing x y)

pub total_parts : (edit : Edit) (metal existing after part boxes : PointSet) → ((x y : ℤ) → after x y ≡ metal_after edit metal x y || existing x y) → ((x y : ℤ) → part x y ≡ difference_by edit metal existing x y)
    → ((x y : ℤ) → either metal existing x y ≡ true → boxes x y ≡ true → ⊥) → ((x y : ℤ) → after x y ≡ true → boxes x y ≡ true → ⊥)
    → PartsBy edit (λ x y. either metal existing x y || boxes x y) (λ x y. after x y || boxes x y) part
total_parts (Add rect) metal existing after part boxes is part_is now then =
    added_parts (either metal existing) after (squares rect) part boxes (λ x y. is x y ∙ added_square (metal x y) (existing x y) (squares rect x y)) part_is then
total_parts (Cut rect) metal existing after part boxes is part_is now then =
    cut_parts (either metal existing) after (bare (squares rect) existing) part boxes
    (λ x y. is x y ∙ cut_square (metal x y) (existing x y) (squares rect x y)) (λ x y. part_is x y ∙ gone_square (metal x y) (existing x y) (squares rect x y)) now
total_parts (Keep rect) metal existing after part boxes is part_is now then = kept_parts (either metal existing) after part boxes is part_is

pub drawn_parts : (edit : Edit) (metal existing after part : PointSet) → ((x y : ℤ) → after x y ≡ metal_after edit metal x y || existing x y) → ((x y : ℤ) → part x y ≡ difference_by edit metal existing x y)
    → PartsBy edit (either metal existing) after part
drawn_parts (Add rect) metal existing after part is part_is = added_alone (either metal existing) after (squares rect) part (λ x y. is x y ∙ added_square (metal x y) (existing x y) (squares rect x y)) part_is
drawn_parts (Cut rect) metal existing after part is part_is =
    cut_alone (either metal existing) after (bare (squares rect) existing) part
    (λ x y. is x y ∙ cut_square (metal x y) (existing x y) (squares rect x y)) (λ x y. part_is x y ∙ gone_square (metal x y) (existing x y) (squares rect x y))
drawn_parts (Keep rect) metal existing after part is part_is = kept_alone (either metal existing) after part is part_is

pub edit_stays : (edit : Edit) (way : Way) (was is part : PointSet) (g : Grid) (numbers : List ℤ) → way ≡ way_of edit → PartsBy edit was is part → AreMeasured was g numbers → StaysWithin way part g numbers
edit_stays (Add rect) way was is part g numbers e parts measured = rw e (up_stays is was part g numbers measured parts)
edit_stays (Cut rect) way was is part g numbers e parts measured = rw e (down_stays was is part g numbers measured parts)
edit_stays (Keep rect) way was is part g numbers e parts measured = rw e (up_stays is was part g numbers measured parts)

pub edit_measured : (edit : Edit) (way : Way) (was is part : PointSet) (g : Grid) (old new : List ℤ) → way ≡ way_of edit → PartsBy edit was is part → AreMeasured was g old → IsMoved way part g old new → AreMeasured is g new
edit_measured (Add rect) way was is part g old new e parts measured moved = up_measured is was part g old new measured parts (rw e at moved)
edit_measured (Cut rect) way was is part g old new e parts measured moved = down_measured was is part g old new measured parts (rw e at moved)
edit_measured (Keep rect) way was is part g old new e parts measured moved = up_measured is was part g old new measured parts (rw e at moved)

-- and the way back
pub back_stays : (edit : Edit) (way : Way) (was is part : PointSet) (g : Grid) (numbers : List ℤ) → way ≡ opposite_of edit → PartsBy edit was is part → AreMeasured is g numbers → StaysWithin way part g numbers
back_stays (Add rect) way was is part g numbers e parts measured = rw e (down_stays is was part g numbers measured parts)
back_stays (Cut rect) way was is part g numbers e parts measured = rw e (up_stays was is part g numbers measured parts)
back_stays (Keep rect) way was is part g numbers e parts measured = rw e (down_stays is was part g numbers measured parts)

pub back_measured : (edit : Edit) (way : Way) (was is part : PointSet) (g : Grid) (old new : List ℤ) → way ≡ opposite_of edit → PartsBy edit was is part → AreMeasured is g old → IsMoved way part g old new → AreMeasured was g new
back_measured (Add rect) way was is part g old new e parts measured moved = down_measured is was part g old new measured parts (rw e at moved)
back_measured (Cut rect) way was is part g old new e parts measured moved = up_measured was is part g old new measured parts (rw e at moved)
back_measured (Keep rect) way was is part g old new e parts measured moved = down_measured is was part g old new measured parts (rw e at moved)
