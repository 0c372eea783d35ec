-- The edges of rectangles along an axis.
use Rattle.std.specs.Prelude.{◌≡◌, ℤ, List, All}
use Rattle.std.specs.List.{Contains}
use Rattle.fill_base.specs.declared.rect.Rect.{Rect}
use Rattle.fill_measure.specs.declared.edges.Direction.TheVariants.{Across, Up}
use Rattle.fill_measure.specs.declared.edges.Direction.{Direction}

-- where the rectangle begins and ends along the axis
abbrev pub edge_from : Direction → Rect → ℤ
edge_from Across r = r.x1
edge_from Up r = r.y1

abbrev pub edge_to : Direction → Rect → ℤ
edge_to Across r = r.x2
edge_to Up r = r.y2

pub record IsFromTo (direction : Direction) (r : Rect) (from to : ℤ) : Type 0 where
  pub from_is : from ≡ edge_from direction r
  pub to_is : to ≡ edge_to direction r

-- the numbers hold both edges of each rectangle
pub record HoldEdges (direction : Direction) (rects : List Rect) (numbers : List ℤ) : Type 0 where
  pub from : All (λ r. Contains numbers (edge_from direction r)) rects
  pub to : All (λ r. Contains numbers (edge_to direction r)) rects
