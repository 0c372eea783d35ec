-- What a chip has to know of its layers: its rows of tiles and of windows, and the sides between which all lies that it looks at.
use Rattle.std.specs.Prelude.{◌≡◌, ℕ, ◌-◌, ◌/◌, ◌<◌, ℤ, ◌+ℤ◌, ◌-ℤ◌, ◌≤ℤ◌, Bool, true, ◌&&◌, int_lt, nat_lt, if◌then◌else◌}
use Rattle.std.specs.Int.{int_max, int_min}
use Rattle.fill_base.specs.Coordinates.{lowest, highest}
use Rattle.fill_base.specs.Counts.{is_between}
use Rattle.fill_base.specs.Sides.{Sides}
use Rattle.fill_area.specs.Grid.{Grid, window_left, window_right, window_bottom, window_top}
use Rattle.fill_raster.specs.Axes.{bands}
use Rattle.fill_raster.specs.Lattice.{Lattice, tiles, tile_of, tile_left, tile_right, tile_bottom, tile_top}
use Rattle.fill_job.specs.Plans.{Plan, Layers, PointSet}
use Rattle.fill_parts.specs.Cuts.{Part, has_row}

-- the row of a tile, from 0 on, and of the tile of a place
abbrev pub row_of : Lattice → ℕ → ℕ
row_of r tile = tile / bands r.across

abbrev pub row_at : Lattice → ℤ → ℤ → ℕ
row_at r i j = row_of r (tile_of r i j)

-- the tile is of the part, and the windows of the row are
abbrev pub has_tile : Plan → Part → ℕ → Bool
has_tile plan part tile = has_row part (bands plan.raster.up) (row_of plan.raster tile)

abbrev pub has_windows : Plan → Part → ℕ → Bool
has_windows plan part b = has_row part plan.windows.up.count b

-- the windows of row `b` share a line of squares with the boxes of the tile
abbrev pub is_level : Plan → ℕ → ℕ → Bool
is_level plan tile b = int_lt (window_bottom plan.windows b) (tile_top plan.raster tile) && int_lt (tile_bottom plan.raster tile) (window_top plan.windows b)

-- the square lies between the sides
abbrev pub is_inside : Sides → ℤ → ℤ → Bool
is_inside s x y = is_between s.left s.right x && is_between s.bottom s.top y

-- how far from a box metal or existing fill may lie that takes its place
abbrev pub reach : Plan → ℤ
reach plan = int_max plan.spacing plan.fill_spacing

-- the edges of a window, and of the halo of a tile
abbrev pub window_sides : Grid → ℕ → ℕ → Sides
window_sides g a b = record { left = window_left g a; bottom = window_bottom g b; right = window_right g a; top = window_top g b }

abbrev pub halo_sides : Plan → ℕ → Sides
halo_sides plan tile = record {
  left = tile_left plan.raster tile -ℤ reach plan;
  bottom = tile_bottom plan.raster tile -ℤ reach plan;
  right = tile_right plan.raster tile +ℤ reach plan;
  top = tile_top plan.raster tile +ℤ reach plan;
}

-- the first sides lie between the second ones
pub record LieInside (t s : Sides) : Type 0 where
  pub from_left : s.left ≤ℤ t.left
  pub from_bottom : s.bottom ≤ℤ t.bottom
  pub to_right : t.right ≤ℤ s.right
  pub to_top : t.top ≤ℤ s.top

-- all that a chip looks at lies between the sides: its windows, and the halos of its tiles
pub record IsEnough (plan : Plan) (s : Sides) : Type 0 where
  pub windows : (a b : ℕ) → a < plan.windows.across.count → b < plan.windows.up.count → LieInside (window_sides plan.windows a b) s
  pub halos : (tile : ℕ) → tile < tiles plan.raster → LieInside (halo_sides plan tile) s

-- the sides round the windows of some rows, from one on and below another: they go from the first to the last
abbrev pub round_windows : Grid → ℕ → ℕ → Sides
round_windows g from to = record { left = window_left g 0; bottom = window_bottom g from; right = window_right g (g.across.count - 1); top = window_top g (to - 1) }

-- the sides round the halos of all tiles
abbrev pub round_halos : Plan → Sides
round_halos plan =
    let last = tiles plan.raster - 1 in
    record { left = (halo_sides plan 0).left; bottom = (halo_sides plan 0).bottom; right = (halo_sides plan last).right; top = (halo_sides plan last).top }

-- the least sides round both
abbrev pub round : Sides → Sides → Sides
round s t = record { left = int_min s.left t.left; bottom = int_min s.bottom t.bottom; right = int_max s.right t.right; top = int_max s.top t.top }

-- the least sides that are enough: round all windows and, where there are tiles, their halos
abbrev pub needed_sides : Plan → Sides
needed_sides plan =
    let all = round_windows plan.windows 0 plan.windows.up.count in
    if nat_lt 0 (tiles plan.raster) then round all (round_halos plan) else all

-- two sets have the same squares between the sides
abbrev pub AgreeInside : Sides → PointSet → PointSet → Type 0
AgreeInside s p q = (x y : ℤ) → is_inside s x y ≡ true → p x y ≡ q x y

-- so do metal, existing fill and keep-outs
pub record LayersAgree (s : Sides) (p q : Layers) : Type 0 where
  pub metal : AgreeInside s p.metal q.metal
  pub fill : AgreeInside s p.fill q.fill
  pub keep : AgreeInside s p.keep q.keep

-- the part of some sides within the coordinates
abbrev pub in_coordinates : Sides → Sides
in_coordinates s = record { left = int_max s.left lowest; bottom = int_max s.bottom lowest; right = int_min s.right highest; top = int_min s.top highest }

-- the squares of a set between the sides
abbrev pub met_with : Sides → PointSet → PointSet
met_with s p x y = p x y && is_inside s x y

-- so of metal, existing fill and keep-outs
abbrev pub layers_met : Sides → Layers → Layers
layers_met s p = record { metal = met_with s p.metal; fill = met_with s p.fill; keep = met_with s p.keep }
