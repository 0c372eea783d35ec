-- What boxes take of a window: of a place, of the places of a row between two columns, and of rows.
use Rattle.std.specs.Prelude.{◌≡◌, ℕ, ℤ, true, cond}
use Rattle.fill_base.specs.Counts.{sum_between}
use Rattle.fill_base.specs.Squares.{area_of}
use Rattle.fill_base.specs.declared.rect.Rect.{Rect}
use Rattle.fill_raster.specs.Lattice.{Lattice, box_squares}
use Rattle.fill_job.specs.Plans.{PointSet}

abbrev pub taken_in : Lattice → PointSet → Rect → ℤ → ℤ → ℕ
taken_in r fill w i j = cond (fill i j) (area_of (box_squares r i j) w) 0

abbrev pub taken_by_row : Lattice → PointSet → Rect → ℤ → ℤ → ℤ → ℕ
taken_by_row r fill w left right j = sum_between (λ i. taken_in r fill w i j) left right

abbrev pub taken_by_rows : Lattice → PointSet → Rect → ℤ → ℤ → ℤ → ℤ → ℕ
taken_by_rows r fill w left right bottom top = sum_between (λ j. taken_by_row r fill w left right j) bottom top

-- boxes of filled places that share a square are one
pub record AreApart (r : Lattice) (fill : PointSet) : Type 0 where
  pub columns : (i j k l x y : ℤ) → fill i j ≡ true → fill k l ≡ true → box_squares r i j x y ≡ true → box_squares r k l x y ≡ true → i ≡ k
  pub rows : (i j k l x y : ℤ) → fill i j ≡ true → fill k l ≡ true → box_squares r i j x y ≡ true → box_squares r k l x y ≡ true → j ≡ l
