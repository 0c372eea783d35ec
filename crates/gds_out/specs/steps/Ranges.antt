-- Ranges of the numbers that are written.
use Rattle.std.specs.Prelude.{ℕ, ◌<◌, ℤ, pos, ◌+ℤ◌, ◌*ℤ◌, ◌≤ℤ◌, List, [], ◌∷◌}
use Rattle.fill_base.specs.Limits.{IsLength}
use Rattle.fill_base.specs.declared.place.Point.{Point}
use Rattle.fill_raster.specs.Axes.{first, past}
use Rattle.fill_raster.specs.Lattice.{Lattice}
use Rattle.fill_stacks.specs.declared.pieces.Stack.{Stack}
use Rattle.gds_record.specs.Numbers.{IsStored}

abbrev pub at : ℤ → ℤ → Point
at x y = record { x = x; y = y }

-- the points of an array: its corner, the corner moved by all columns, the corner moved by all rows
abbrev pub three_points : Point → Point → ℕ → ℕ → List Point
three_points p step columns rows =
    p ∷ at (p.x +ℤ (pos columns *ℤ step.x)) p.y ∷ at p.x (p.y +ℤ (pos rows *ℤ step.y)) ∷ []

-- they fit four bytes each
pub record IsArray (p step : Point) (columns rows : ℕ) : Type 0 where
  pub wide : IsLength step.x
  pub tall : IsLength step.y
  pub corner : IsStored p
  pub behind : IsStored (at (p.x +ℤ (pos columns *ℤ step.x)) p.y)
  pub above : IsStored (at p.x (p.y +ℤ (pos rows *ℤ step.y)))

-- a stack of at least one box, whose columns and rows are those of the raster
pub record IsStackOf (r : Lattice) (s : Stack) : Type 0 where
  pub wide : 0 < s.columns
  pub left : first r.across ≤ℤ s.column
  pub right : (s.column +ℤ pos s.columns) ≤ℤ past r.across
  pub tall : 0 < s.rows
  pub low : first r.up ≤ℤ s.row
  pub high : (s.row +ℤ pos s.rows) ≤ℤ past r.up
