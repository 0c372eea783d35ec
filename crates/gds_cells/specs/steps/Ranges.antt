-- Ranges of numbers.
use Rattle.std.specs.Prelude.{ℕ, ◌*◌, ◌<◌, ◌≤◌, ℤ, unsigned_abs}
use Rattle.fill_base.specs.declared.place.Point.{Point}
use Rattle.gds_cells.specs.declared.placement.Placement.{Placement}

-- within 2^45, far from where sums of 64 bits end
abbrev pub IsClose : ℤ → Type 0
IsClose z = unsigned_abs z ≤ 35184372088832

-- moved at most n times 2^36 along each axis
pub record IsWithin (n : ℕ) (p : Placement) : Type 0 where
  pub x : unsigned_abs p.x ≤ n * 68719476736
  pub y : unsigned_abs p.y ≤ n * 68719476736

-- How far the single references of an array go: so many steps of either kind are at most 2^32
-- together, and they begin at a number of four bytes.
pub record IsGrid (p : Placement) (columns rows : ℕ) (d e : Point) : Type 0 where
  pub first_x : unsigned_abs p.x ≤ 2147483648
  pub first_y : unsigned_abs p.y ≤ 2147483648
  pub some_columns : 0 < columns
  pub few_columns : columns ≤ 32767
  pub some_rows : 0 < rows
  pub few_rows : rows ≤ 32767
  pub columns_x : columns * unsigned_abs d.x ≤ 4294967296
  pub columns_y : columns * unsigned_abs d.y ≤ 4294967296
  pub rows_x : rows * unsigned_abs e.x ≤ 4294967296
  pub rows_y : rows * unsigned_abs e.y ≤ 4294967296
