-- What holds of runs, pieces and stacks.
use Rattle.std.specs.Prelude.{◌≡◌, ℕ, suc, true, false, ◌<◌, ◌≤◌, ◌≤ℤ◌, ℤ, pos, ◌+ℤ◌, ◌-ℤ◌, ◌<ℤ◌, List, ◌∷◌, map}
use Rattle.std.specs.List.{flat_map}
use Rattle.std.specs.List.Sorted.{IsPermutation}
use Rattle.fill_raster.specs.Axes.{first, past}
use Rattle.fill_raster.specs.Lattice.{Lattice}
use Rattle.fill_stacks.specs.Counting.{as_piece, counted, found, heights_at, levels_at, next_height, next_level}
use Rattle.fill_stacks.specs.Places.{PlaceSet, filled_places, row_pieces}
use Rattle.fill_stacks.specs.Runs.{Run, run, runs, pieces, numbers_from}
use Rattle.fill_stacks.specs.Stacks.{IsOne, has_piece, stack_places, stacks}
use Rattle.fill_stacks.specs.declared.pieces.Stack.{Stack}

-- the numbers of a run
abbrev pub numbers_in : Run → List ℤ
numbers_in r = numbers_from r.start r.count

-- the numbers of the pieces of runs, from left to right
abbrev pub numbers_of_pieces : List Run → List ℤ
numbers_of_pieces rs = flat_map (λ r. flat_map numbers_in (pieces r)) rs

-- no run begins right behind the one before it
abbrev pub AreApart : List Run → Type 0
AreApart (r ∷ s ∷ rs) = (s.start ≡ r.start +ℤ pos r.count → ⊥) × AreApart (s ∷ rs)
AreApart _ = Unit {0}

-- runs are as long as can be
abbrev pub RunsAreLongest : Type 0
RunsAreLongest = (zs : List ℤ) → AreApart (runs zs)

-- the pieces of a list's runs hold each of its numbers once, in its order, and nothing else
abbrev pub PiecesHoldEachOnce : Type 0
PiecesHoldEachOnce = (zs : List ℤ) → numbers_of_pieces (runs zs) ≡ zs

-- the places of the stacks are the filled places, each once, in another order
abbrev pub StacksHoldEachOnce : Type 0
StacksHoldEachOnce = (filled : PlaceSet) (r : Lattice) → IsPermutation (flat_map stack_places (stacks filled r)) (filled_places filled r)

-- a stack is of a piece of its lowest row, its columns and rows are those of the raster, and there are 1 to 32,767 of each
pub record IsOnRaster (filled : PlaceSet) (r : Lattice) (s : Stack) : Type 0 where
  pub piece : IsOne (run s.column s.columns) (row_pieces filled r s.row)
  pub wide : 0 < s.columns
  pub narrow : s.columns ≤ 32767
  pub left : first r.across ≤ℤ s.column
  pub right : (s.column +ℤ pos s.columns) ≤ℤ past r.across
  pub some : 0 < s.rows
  pub few : s.rows ≤ 32767
  pub from : first r.up ≤ℤ s.row
  pub to : (s.row +ℤ pos s.rows) ≤ℤ past r.up

abbrev pub StacksAreOnTheRaster : Type 0
StacksAreOnTheRaster = (filled : PlaceSet) (r : Lattice) (s : Stack) → IsOne s (stacks filled r) → IsOnRaster filled r s

-- A stack is as long as can be: it ends below the last row where it has 32,767 rows, or the row above it hasn't its piece. A row
-- right below it has that piece only where 32,767 rows there have it, which are a stack of their own.
pub record IsLongest (filled : PlaceSet) (r : Lattice) (s : Stack) : Type 0 where
  pub above : s.rows < 32767 → (s.row +ℤ pos s.rows) <ℤ past r.up → has_piece filled r (run s.column s.columns) (s.row +ℤ pos s.rows) ≡ false
  pub below : first r.up <ℤ s.row → has_piece filled r (run s.column s.columns) (s.row -ℤ pos 1) ≡ true
      → (k : ℕ) → k < 32767 → has_piece filled r (run s.column s.columns) (s.row -ℤ pos (suc k)) ≡ true

abbrev pub StacksAreLongest : Type 0
StacksAreLongest = (filled : PlaceSet) (r : Lattice) (s : Stack) → IsOne s (stacks filled r) → IsLongest filled r s

-- the heights of a row's pieces follow from the row above, and the levels from the row below
abbrev pub HeightsFollow : Type 0
HeightsFollow = (filled : PlaceSet) (r : Lattice) (j : ℤ) → j <ℤ past r.up
    → map (λ p. counted p (next_height (found (heights_at filled r (j +ℤ pos 1)) p))) (map as_piece (row_pieces filled r j)) ≡ heights_at filled r j

abbrev pub LevelsFollow : Type 0
LevelsFollow = (filled : PlaceSet) (r : Lattice) (j : ℤ) → first r.up ≤ℤ j
    → map (λ p. counted p (next_level (found (levels_at filled r (j -ℤ pos 1)) p))) (map as_piece (row_pieces filled r j)) ≡ levels_at filled r j

-- a second raster has some rows of the first one, and all filled places stand in these
pub record AreItsRows (filled : PlaceSet) (whole some : Lattice) : Type 0 where
  pub across : some.across ≡ whole.across
  pub from : first whole.up ≤ℤ first some.up
  pub to : past some.up ≤ℤ past whole.up
  pub below : (i j : ℤ) → j <ℤ first some.up → filled i j ≡ false
  pub above : (i j : ℤ) → past some.up ≤ℤ j → filled i j ≡ false

-- the stacks are then the same on both
abbrev pub StacksOfSomeRows : Type 0
StacksOfSomeRows = (filled : PlaceSet) (whole some : Lattice) → AreItsRows filled whole some → stacks filled some ≡ stacks filled whole
