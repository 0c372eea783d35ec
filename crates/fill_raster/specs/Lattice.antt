-- A raster: places in columns and rows, each with its box, and the tiles that they are grouped into.
use Rattle.std.specs.Prelude.{ℕ, ◌+◌, ◌*◌, ◌/◌, ◌%◌, ◌≤◌, ℤ, ◌+ℤ◌, ◌-ℤ◌, Bool, ◌&&◌, ◌==◌}
use Rattle.fill_base.specs.Counts.{is_between}
use Rattle.fill_base.specs.declared.place.Point.{Point}
use Rattle.fill_base.specs.declared.rect.Rect.{Rect}
use Rattle.fill_raster.specs.Axes.{box_begin, box_end, is_on, is_on_within, extent, bands, band_of, band_begin, band_end, IsAxis, IsPitch}
use Rattle.fill_raster.specs.declared.axis.Axis.{Axis}

-- the columns of the places from left to right, and their rows upwards
pub record Lattice : Type 0 where
  pub across : Axis
  pub up : Axis

-- the raster in the frame, with this size of a box, these steps, the corner of the box of place (0, 0), and so many places of a
-- tile across and up
abbrev pub lattice_of : Rect → ℤ × ℤ → ℤ × ℤ → Point → ℕ × ℕ → Lattice
lattice_of frame size step origin tile = record {
  across = record { low = frame.x1; high = frame.x2; length = size.0; step = step.0; origin = origin.x; band = tile.0 };
  up = record { low = frame.y1; high = frame.y2; length = size.1; step = step.1; origin = origin.y; band = tile.1 };
}

-- the place is on the raster: its box lies within the frame
abbrev pub in_raster : Lattice → ℤ → ℤ → Bool
in_raster r i j = is_on r.across i && is_on r.up j

-- the place is on the raster, and its box shares a square with the rectangle, grown by the spacing on all sides
abbrev pub is_near : Lattice → Rect → ℤ → ℤ → ℤ → Bool
is_near r rect spacing i j = is_on_within r.across (rect.x1 -ℤ spacing) (rect.x2 +ℤ spacing) i && is_on_within r.up (rect.y1 -ℤ spacing) (rect.y2 +ℤ spacing) j

-- the box of the place holds the square
abbrev pub box_squares : Lattice → ℤ → ℤ → ℤ → ℤ → Bool
box_squares r i j x y = is_between (box_begin r.across i) (box_end r.across i) x && is_between (box_begin r.up j) (box_end r.up j) y

-- how many places there are
abbrev pub places : Lattice → ℕ
places r = extent r.across * extent r.up

-- how many tiles there are, and the tile of a place: by rows of tiles, lower rows first
abbrev pub tiles : Lattice → ℕ
tiles r = bands r.up * bands r.across

abbrev pub tile_of : Lattice → ℤ → ℤ → ℕ
tile_of r i j = band_of r.up j * bands r.across + band_of r.across i

abbrev pub in_tile : Lattice → ℕ → ℤ → ℤ → Bool
in_tile r t i j = in_raster r i j && (tile_of r i j == t)

-- the edges of the bounding rectangle of the boxes of a tile
abbrev pub tile_left : Lattice → ℕ → ℤ
tile_left r t = band_begin r.across (t % bands r.across)

abbrev pub tile_right : Lattice → ℕ → ℤ
tile_right r t = band_end r.across (t % bands r.across)

abbrev pub tile_bottom : Lattice → ℕ → ℤ
tile_bottom r t = band_begin r.up (t / bands r.across)

abbrev pub tile_top : Lattice → ℕ → ℤ
tile_top r t = band_end r.up (t / bands r.across)

-- that rectangle, grown by a spacing on all sides, holds the square
abbrev pub in_halo : Lattice → ℕ → ℤ → ℤ → ℤ → Bool
in_halo r t spacing x y = is_between (tile_left r t -ℤ spacing) (tile_right r t +ℤ spacing) x && is_between (tile_bottom r t -ℤ spacing) (tile_top r t +ℤ spacing) y

-- both steps are at least a box and the spacing
abbrev pub KeepsPitch : Lattice → ℤ → Type 0
KeepsPitch r spacing = IsPitch r.across spacing × IsPitch r.up spacing

-- at most 2^24
abbrev pub HasFewPlaces : Lattice → Type 0
HasFewPlaces r = places r ≤ 16777216

pub record IsLattice (r : Lattice) : Type 0 where
  pub across : IsAxis r.across
  pub up : IsAxis r.up
  pub few : HasFewPlaces r
