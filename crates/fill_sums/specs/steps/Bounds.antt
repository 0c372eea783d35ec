-- The rectangle around the first rectangles of a list.
use Rattle.std.specs.Prelude.{◌≡◌, ℕ, ℤ, ◌≤ℤ◌, ◌<ℤ◌, true, List, take}
use Rattle.fill_base.specs.Coordinates.{highest, lowest}
use Rattle.fill_base.specs.declared.rect.Rect.{Rect}
use Rattle.fill_region.specs.Squares.{covered}

pub record IsBetween (left bottom right top x y : ℤ) : Type 0 where
  pub on_left : left ≤ℤ x
  pub on_right : x <ℤ right
  pub on_bottom : bottom ≤ℤ y
  pub on_top : y <ℤ top

-- every square of the first `k` rectangles lies between the edges, which are coordinates
pub record AreBounds (rects : List Rect) (k : ℕ) (left bottom right top : ℤ) : Type 0 where
  pub left_least : lowest ≤ℤ left
  pub left_most : left ≤ℤ highest
  pub bottom_least : lowest ≤ℤ bottom
  pub bottom_most : bottom ≤ℤ highest
  pub right_least : lowest ≤ℤ right
  pub right_most : right ≤ℤ highest
  pub top_least : lowest ≤ℤ top
  pub top_most : top ≤ℤ highest
  pub within : (x y : ℤ) → covered (take k rects) x y ≡ true → IsBetween left bottom right top x y
