-- Sums that move by one term after another.
use Rattle.std.proofs.Common.{◌≡◌, refl, ap, sym, ◌∙◌, ℕ, ◌+◌, ◌≤◌, ℤ, pos, ◌+ℤ◌, ◌≤ℤ◌, ◌<ℤ◌, arith, List, true, false}
use Rattle.std.proofs.Math.Path.{fun_ext}
use Rattle.std.proofs.lemmas.Int.{ints, clamps}
use Rattle.fill_base.specs.Counts.{sum_between}
use Rattle.fill_base.specs.Squares.{squares}
use Rattle.fill_base.specs.declared.rect.Rect.{Rect}
use Rattle.fill_base.proofs.Counting.{sum_between_split}
use Rattle.fill_area.specs.Density.{window_area}
use Rattle.fill_area.specs.Grid.{Grid}
use Rattle.fill_area.specs.Sharing.{IsWindow}
use Rattle.fill_raster.specs.Lattice.{Lattice, box_squares}
use Rattle.fill_sums.specs.declared.moving.Way.{Way}
use Rattle.fill_sums.specs.declared.moving.Way.TheVariants.{Up, Down}
use Rattle.fill_sums.specs.Numbers.{AreNumbers, IsMovedBy, StaysBy, moved, number_at, window_size}
use Rattle.fill_sums.proofs.Untouched.{moved_nothing, still_numbers}
use Rattle.fill_job.specs.Plans.{PointSet}
use Rattle.fill_book.specs.steps.Following.{taken_at}
use Rattle.fill_state.proofs.BoxSums.{sum_first, sum_next}

-- the terms from one number on and below another, window by window
abbrev pub all_of : (ℤ → ℕ → ℕ → ℕ) → ℤ → ℤ → ℕ → ℕ → ℕ
all_of f lo hi a b = sum_between (λ k. f k a b) lo hi

-- ---- one number

pub moved_twice : (way : Way) (n : ℤ) (s t : ℕ) → moved way (moved way n s) t ≡ moved way n (s + t)
moved_twice Up n s t = omega (arith, ints, clamps)
moved_twice Down n s t = omega (arith, ints, clamps)

record Stays (way : Way) (n : ℤ) (s : ℕ) (size : ℤ) : Type 0 where
  least : pos 0 ≤ℤ moved way n s
  most : moved way n s ≤ℤ size

-- a part of what may come or go may come or go
stays_less : (way : Way) (n : ℤ) (s all : ℕ) (size : ℤ) → pos 0 ≤ℤ n → n ≤ℤ size → pos 0 ≤ℤ moved way n all → moved way n all ≤ℤ size → s ≤ all → Stays way n s size
stays_less Up n s all size low high least most le = record { least = omega (arith, ints, clamps); most = omega (arith, ints, clamps) }
stays_less Down n s all size low high least most le = record { least = omega (arith, ints, clamps); most = omega (arith, ints, clamps) }

-- ---- the numbers of all windows

part_of : (f : ℤ → ℕ) (lo i hi : ℤ) → lo ≤ℤ i → i ≤ℤ hi → sum_between f lo i ≤ sum_between f lo hi
part_of f lo i hi low high = let e = sum_between_split f lo i hi low high in le _ _ _ e
  where
    le : (a b c : ℕ) → a ≡ b + c → b ≤ a
    le a b c e = omega (arith, e)

up_to : (i hi : ℤ) → i <ℤ hi → (i +ℤ pos 1) ≤ℤ hi
up_to i hi h = omega (arith, ints, clamps)

above : (lo i : ℤ) → lo ≤ℤ i → lo ≤ℤ (i +ℤ pos 1)
above lo i h = omega (arith, ints, clamps)

below : (i hi : ℤ) → i <ℤ hi → i ≤ℤ hi
below i hi h = omega (arith, ints, clamps)

pub none_moved : (way : Way) (f : ℤ → ℕ → ℕ → ℕ) (g : Grid) (lo : ℤ) (old : List ℤ) → IsMovedBy way (all_of f lo lo) g old old
none_moved way f g lo old = record { count = refl; each = λ a b window. sym (ap (moved way (number_at g old a b)) (sum_first (λ k. f k a b) lo) ∙ moved_nothing way (number_at g old a b)) }

pub next_stays : (way : Way) (f : ℤ → ℕ → ℕ → ℕ) (g : Grid) (lo i hi : ℤ) (old now : List ℤ) → AreNumbers g old → StaysBy way (all_of f lo hi) g old → IsMovedBy way (all_of f lo i) g old now → lo ≤ℤ i → i <ℤ hi → StaysBy way (f i) g now
next_stays way f g lo i hi old now are stays at low high = record {
  least = λ a b window. rw (is a b window) (step a b window).least;
  most = λ a b window. rw (is a b window) (step a b window).most;
}
  where
    is : (a b : ℕ) → IsWindow g a b → moved way (number_at g now a b) (f i a b) ≡ moved way (number_at g old a b) (all_of f lo (i +ℤ pos 1) a b)
    is a b window = ap (λ n. moved way n (f i a b)) (at.each a b window) ∙ (moved_twice way (number_at g old a b) (all_of f lo i a b) (f i a b) ∙ ap (moved way (number_at g old a b)) (sym (sum_next (λ k. f k a b) lo i low)))

    step : (a b : ℕ) → IsWindow g a b → Stays way (number_at g old a b) (all_of f lo (i +ℤ pos 1) a b) (window_size g)
    step a b window = stays_less way _ _ (all_of f lo hi a b) _ (are.least a b window) (are.most a b window) (stays.least a b window) (stays.most a b window) (part_of (λ k. f k a b) lo (i +ℤ pos 1) hi (above lo i low) (up_to i hi high))

pub next_numbers : (way : Way) (f : ℤ → ℕ → ℕ → ℕ) (g : Grid) (lo i hi : ℤ) (old now : List ℤ) → AreNumbers g old → StaysBy way (all_of f lo hi) g old → IsMovedBy way (all_of f lo i) g old now → lo ≤ℤ i → i <ℤ hi → AreNumbers g now
next_numbers way f g lo i hi old now are stays at low high = still_numbers way (all_of f lo i) g old now are (record {
  least = λ a b window. (step a b window).least;
  most = λ a b window. (step a b window).most;
}) at
  where
    step : (a b : ℕ) → IsWindow g a b → Stays way (number_at g old a b) (all_of f lo i a b) (window_size g)
    step a b window = stays_less way _ _ (all_of f lo hi a b) _ (are.least a b window) (are.most a b window) (stays.least a b window) (stays.most a b window) (part_of (λ k. f k a b) lo i hi low (below i hi high))

pub next_moved : (way : Way) (f : ℤ → ℕ → ℕ → ℕ) (g : Grid) (lo i : ℤ) (old now new : List ℤ) → lo ≤ℤ i → IsMovedBy way (all_of f lo i) g old now → IsMovedBy way (f i) g now new → IsMovedBy way (all_of f lo (i +ℤ pos 1)) g old new
next_moved way f g lo i old now new low at is = record {
  count = is.count ∙ at.count;
  each = λ a b window.
      is.each a b window ∙ (ap (λ n. moved way n (f i a b)) (at.each a b window) ∙ (moved_twice way (number_at g old a b) (all_of f lo i a b) (f i a b) ∙ ap (moved way (number_at g old a b)) (sym (sum_next (λ k. f k a b) lo i low))));
}

-- a term that is nothing
pub next_passed : (way : Way) (f : ℤ → ℕ → ℕ → ℕ) (g : Grid) (lo i : ℤ) (old now : List ℤ) → lo ≤ℤ i → IsMovedBy way (all_of f lo i) g old now → ((a b : ℕ) → f i a b ≡ 0) → IsMovedBy way (all_of f lo (i +ℤ pos 1)) g old now
next_passed way f g lo i old now low at none = next_moved way f g lo i old now now low at (record { count = refl; each = λ a b window. sym (ap (moved way (number_at g now a b)) (none a b) ∙ moved_nothing way (number_at g now a b)) })

-- ---- a box

pub box_area : (r : Lattice) (fill : PointSet) (g : Grid) (i j : ℤ) (box : Rect) → fill i j ≡ true → ((x y : ℤ) → squares box x y ≡ box_squares r i j x y) → window_area (squares box) g ≡ taken_at r fill g i j
box_area r fill g i j box here is =
    let same : squares box ≡ box_squares r i j = fun_ext (λ x. fun_ext (λ y. is x y)) in
    fun_ext (λ a. fun_ext (λ b. ap (λ (p : PointSet). window_area p g a b) same ∙ rw here refl))

pub no_box : (r : Lattice) (fill : PointSet) (g : Grid) (i j : ℤ) → fill i j ≡ false → (a b : ℕ) → taken_at r fill g i j a b ≡ 0
no_box r fill g i j out a b = rw out refl

-- ---- what a loop passes

pub next_up : (lo hi i : ℤ) → lo ≤ℤ i → i <ℤ hi → (lo ≤ℤ (i +ℤ pos 1)) × ((i +ℤ pos 1) ≤ℤ hi)
next_up lo hi i low high = (above lo i low, up_to i hi high)

pub at_end : (i hi : ℤ) → i ≤ℤ hi → hi ≤ℤ i → i ≡ hi
at_end i hi to past = omega (arith, ints, clamps)

pub all_passed : (way : Way) (f : ℤ → ℕ → ℕ → ℕ) (g : Grid) (lo i hi : ℤ) (old new : List ℤ) → i ≤ℤ hi → hi ≤ℤ i → IsMovedBy way (all_of f lo i) g old new → IsMovedBy way (all_of f lo hi) g old new
all_passed way f g lo i hi old new to past is = rw (← at_end i hi to past) is
