-- Rectangles grown on all sides.
use Rattle.std.specs.Prelude.{ℤ, ◌+ℤ◌, ◌-ℤ◌, ◌≤ℤ◌}
use Rattle.fill_base.specs.Coordinates.{lowest, highest}
use Rattle.fill_base.specs.declared.rect.Rect.{Rect}

-- the rectangle grown by `d` on all sides lies within the coordinates
pub record FitsGrown (r : Rect) (d : ℤ) : Type 0 where
  pub left : lowest ≤ℤ (r.x1 -ℤ d)
  pub bottom : lowest ≤ℤ (r.y1 -ℤ d)
  pub right : (r.x2 +ℤ d) ≤ℤ highest
  pub top : (r.y2 +ℤ d) ≤ℤ highest
