-- The density windows that the rules ask for.
use Rattle.std.specs.Prelude.{ℕ, ◌-◌, ◌*◌, ℤ, pos, ◌&&◌, Bool, Option, Some, None, int_le, nat_le, if◌then◌else◌}
use Rattle.fill_area.specs.Axes.{axis_end}
use Rattle.fill_area.specs.Grid.{Grid}
use Rattle.fill_area.specs.declared.axis.Axis.{Axis}
use Rattle.fill_base.specs.Coordinates.{highest}
use Rattle.fill_text.specs.RectTests.{is_coordinate}

-- from 1 to 2^20
abbrev pub is_length : ℤ → Bool
is_length z = int_le (pos 1) z && int_le z (pos 1048576)

abbrev pub is_count : ℕ → Bool
is_count n = nat_le 1 n && nat_le n 1048576

-- length, step and count are from 1 to 2^20, and the spans lie within the coordinates
abbrev pub is_axis : Axis → Bool
is_axis axis = is_length axis.length && is_length axis.step && is_count axis.count && is_coordinate axis.first && int_le (axis_end axis (axis.count - 1)) highest

-- at most 2^20 windows, each within the coordinates
abbrev pub is_grid : Grid → Bool
is_grid g = is_axis g.across && is_axis g.up && nat_le (g.across.count * g.up.count) 1048576

-- the grid of windows with these numbers
unfoldable pub grid_with : Grid → Option Grid
grid_with g = if is_grid g then Some g else None
