-- Density windows: a grid of equal rectangles, which may overlap or leave gaps. Of each window that part counts which lies within
-- one rectangle, the same for all: mostly all coordinates, which cut nothing off.
use Rattle.std.specs.Prelude.{ℕ, ◌*◌, ◌≤◌, ℤ, ◌*ℤ◌, ◌-ℤ◌, ◌≤ℤ◌, ◌<ℤ◌}
use Rattle.fill_base.specs.Coordinates.{lowest, highest}
use Rattle.fill_base.specs.Sides.{Sides}
use Rattle.fill_base.specs.declared.place.Point.{Point}
use Rattle.fill_area.specs.declared.axis.Axis.{Axis}
use Rattle.fill_area.specs.declared.parts.Clip.{Clip}
use Rattle.fill_area.specs.declared.parts.Parts.{Parts}
use Rattle.fill_area.specs.Axes.{IsAxis, axis_begin, axis_end}
use Rattle.fill_area.specs.Parts.{part_begin, part_end}

-- the windows of a row, from left to right, those of a column, upwards, and the rectangle within which they count
pub record Grid : Type 0 where
  pub across : Axis
  pub up : Axis
  pub clip : Clip

abbrev pub all_coordinates : Clip
all_coordinates = record { left = lowest; bottom = lowest; right = highest; top = highest }

-- the grid with this first corner, size, steps and counts
abbrev pub grid_of : Point → ℤ × ℤ → ℤ × ℤ → ℕ × ℕ → Grid
grid_of origin size step count = record {
  across = record { first = origin.x; length = size.0; step = step.0; count = count.0 };
  up = record { first = origin.y; length = size.1; step = step.1; count = count.1 };
  clip = all_coordinates;
}

-- the edges of the window in column `a` and row `b`
abbrev pub window_left : Grid → ℕ → ℤ
window_left g a = axis_begin g.across a

abbrev pub window_right : Grid → ℕ → ℤ
window_right g a = axis_end g.across a

abbrev pub window_bottom : Grid → ℕ → ℤ
window_bottom g b = axis_begin g.up b

abbrev pub window_top : Grid → ℕ → ℤ
window_top g b = axis_end g.up b

pub record IsClip (c : Clip) : Type 0 where
  pub left : lowest ≤ℤ c.left
  pub across : c.left <ℤ c.right
  pub right : c.right ≤ℤ highest
  pub bottom : lowest ≤ℤ c.bottom
  pub up : c.bottom <ℤ c.top
  pub top : c.top ≤ℤ highest

-- sizes, steps and counts are from 1 to 2^20, there are at most 2^20 windows, and each lies within the coordinates
pub record IsGrid (g : Grid) : Type 0 where
  pub across : IsAxis g.across
  pub up : IsAxis g.up
  pub few : g.across.count * g.up.count ≤ 1048576
  pub clip : IsClip g.clip

-- ---- what counts of a window

abbrev pub clipped_to : Grid → Sides → Grid
clipped_to g s = record g { clip = record { left = s.left; bottom = s.bottom; right = s.right; top = s.top } }

abbrev pub parts_across : Grid → Parts
parts_across g = record { axis = g.across; low = g.clip.left; high = g.clip.right }

abbrev pub parts_up : Grid → Parts
parts_up g = record { axis = g.up; low = g.clip.bottom; high = g.clip.top }

-- how many squares count of the window in column `a` and row `b`
abbrev pub counted_size : Grid → ℕ → ℕ → ℤ
counted_size g a b = (part_end (parts_across g) a -ℤ part_begin (parts_across g) a) *ℤ (part_end (parts_up g) b -ℤ part_begin (parts_up g) b)
