-- Shapes that are filled at the corner of all coordinates.
use Rattle.std.specs.Prelude.{◌≡◌, ℤ, ◌-ℤ◌, ◌≤ℤ◌, false, List, length, Option, Some, None, All}
use Rattle.fill_base.specs.Coordinates.{lowest}
use Rattle.fill_base.specs.declared.rect.Rect.{Rect}
use Rattle.fill_region.specs.Squares.{covered}
use Rattle.gds_grammar.specs.Values.{Shape as Element}
use Rattle.gds_shape.specs.declared.bounds.Bounds.{Bounds}
use Rattle.gds_shape.specs.Extents.{IsExtent, IsNarrow, IsNear, LiesWithin, corner_move}
use Rattle.gds_cells.specs.declared.placement.Placement.{Placement}
use Rattle.gds_cells.specs.Placements.{shift}
use Rattle.gds_cells.specs.Shapes.{covers_of, parts_of}

-- a rectangle of squares by its edges
abbrev pub edges_of : Rect → Bounds
edges_of r = record { left = r.x1; bottom = r.y1; right = r.x2; top = r.y2 }

-- from the corner to where the extent lies
abbrev pub way_back : Bounds → Placement
way_back b = shift (b.left -ℤ lowest) (b.bottom -ℤ lowest)

pub record IsOrdered (b : Bounds) : Type 0 where
  pub wide : b.left ≤ℤ b.right
  pub tall : b.bottom ≤ℤ b.top

-- the element's extent is b, and the pieces are its squares, moved so that b begins at the corner
pub record IsDrawn (element : Element) (pieces : List Rect) (b : Bounds) : Type 0 where
  pub extent : IsExtent (parts_of element) b
  pub near : IsNear b
  pub ordered : All IsOrdered (parts_of element)
  pub inside : LiesWithin (covers_of element) b
  pub filled : IsNarrow b → (x y : ℤ)
      → covered pieces x y ≡ covers_of element (x -ℤ (corner_move b).x) (y -ℤ (corner_move b).y)

-- so is one with an extent, and one without covers nothing
pub record IsPrepared (element : Element) (pieces : List Rect) (extent : Option Bounds) : Type 0 where
  pub drawn : (b : Bounds) → extent ≡ Some b → IsDrawn element pieces b
  pub empty : extent ≡ None → (x y : ℤ) → covers_of element x y ≡ false
  pub bare : extent ≡ None → length (parts_of element) ≡ 0

-- the second lies within the first
pub record IsPart (b c : Bounds) : Type 0 where
  pub left : b.left ≤ℤ c.left
  pub bottom : b.bottom ≤ℤ c.bottom
  pub right : c.right ≤ℤ b.right
  pub top : c.top ≤ℤ b.top
