-- What the boxes of places take of windows: of a place, of the places of a row between two columns, and of rows.
use Rattle.std.specs.Prelude.{ℕ, ℤ, false, cond, ◌&&◌, ◌||◌, not}
use Rattle.fill_base.specs.Counts.{sum_between}
use Rattle.fill_area.specs.Density.{window_area}
use Rattle.fill_area.specs.Grid.{Grid}
use Rattle.fill_raster.specs.Lattice.{Lattice, box_squares}
use Rattle.fill_raster.specs.Marks.{is_marked}
use Rattle.fill_base.specs.Squares.{squares}
use Rattle.fill_sums.specs.declared.moving.Way.{Way}
use Rattle.fill_sums.specs.declared.moving.Way.TheVariants.{Up, Down}
use Rattle.fill_text.specs.declared.script.Edit.{Edit}
use Rattle.fill_text.specs.declared.script.Edit.TheVariants.{Add, Cut, Keep}
use Rattle.fill_job.specs.Plans.{PointSet}
use Rattle.fill_state.specs.Filling.{in_places, is_filled}
use Rattle.fill_state.specs.declared.places.Places.{Places}
use Rattle.fill_book.specs.declared.stored.Stored.{Stored}
use Rattle.fill_book.specs.declared.running.Moved.{Moved}
use Rattle.fill_book.specs.declared.running.Moved.TheVariants.{New, Out}

-- the box of the place comes or goes
abbrev pub is_moved : Moved → PointSet
is_moved (New filled marks) = λ i j. is_marked marks.now i j && not (is_marked filled.now i j)
is_moved (Out filled places) = λ i j. is_filled filled.now i j && in_places places.now i j

abbrev pub taken_at : Lattice → PointSet → Grid → ℤ → ℤ → ℕ → ℕ → ℕ
taken_at r fill g i j a b = cond (fill i j) (window_area (box_squares r i j) g a b) 0

abbrev pub taken_of_row : Lattice → PointSet → Grid → ℤ → ℤ → ℤ → ℕ → ℕ → ℕ
taken_of_row r fill g left right j a b = sum_between (λ i. taken_at r fill g i j a b) left right

abbrev pub taken_of_rows : Lattice → PointSet → Grid → ℤ → ℤ → ℤ → ℤ → ℕ → ℕ → ℕ
taken_of_rows r fill g left right bottom top a b = sum_between (λ j. taken_of_row r fill g left right j a b) bottom top

-- what the boxes take of the filled places among some
abbrev pub taken_out : Stored → Places → Grid → ℕ → ℕ → ℕ
taken_out s p g = taken_of_rows s.filled.raster (λ i j. is_filled s.filled i j && in_places p i j) g p.columns.start p.columns.end p.rows.start p.rows.end

-- whether squares come or go
abbrev pub way_of : Edit → Way
way_of (Add r) = Up
way_of (Cut r) = Down
way_of (Keep r) = Up

-- and the way back
abbrev pub opposite_of : Edit → Way
opposite_of (Add r) = Down
opposite_of (Cut r) = Up
opposite_of (Keep r) = Down

-- what of an edit's rectangle was neither metal nor existing fill and comes, or was metal and no existing fill and goes
abbrev pub difference_by : Edit → PointSet → PointSet → PointSet
difference_by (Add r) metal existing x y = squares r x y && not (metal x y || existing x y)
difference_by (Cut r) metal existing x y = (metal x y && not (existing x y)) && squares r x y
difference_by (Keep r) metal existing x y = false
