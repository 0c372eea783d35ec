-- Which four numbers are the sides of a rectangle.
use Rattle.std.specs.Prelude.{ℤ, ◌&&◌, Bool, Option, Some, None, int_le, int_lt, if◌then◌else◌}
use Rattle.fill_base.specs.Coordinates.{lowest, highest}
use Rattle.fill_base.specs.Sides.{Sides}

abbrev pub is_coordinate : ℤ → Bool
is_coordinate z = int_le lowest z && int_le z highest

-- the sides are in range, and hold a square
abbrev pub is_rect : Sides → Bool
is_rect c = is_coordinate c.left && is_coordinate c.bottom && is_coordinate c.right && is_coordinate c.top && int_lt c.left c.right && int_lt c.bottom c.top

-- the rectangle with these sides
unfoldable pub rect_with : Sides → Option Sides
rect_with c = if is_rect c then Some c else None
