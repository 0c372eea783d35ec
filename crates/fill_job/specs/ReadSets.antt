-- What the wanted places of a tile depend on.
use Rattle.std.specs.Prelude.{ℕ, pos, Bool, ◌&&◌, nat_lt, int_lt}
use Rattle.fill_area.specs.Grid.{window_left, window_right, window_bottom, window_top}
use Rattle.fill_raster.specs.Lattice.{in_halo, tile_left, tile_right, tile_bottom, tile_top}
use Rattle.fill_text.specs.Rules.{Values}
use Rattle.fill_job.specs.Plans.{Plan, Layers, PointSet, WindowSet, plan_of, wanted}

-- the grid has this window, and it shares a square with the bounding rectangle of the tile's boxes
abbrev pub touches : Plan → ℕ → ℕ → ℕ → Bool
touches plan tile a b = (nat_lt a plan.windows.across.count && (int_lt (window_left plan.windows a) (tile_right plan.raster tile) && int_lt (tile_left plan.raster tile) (window_right plan.windows a))) && (nat_lt b plan.windows.up.count && (int_lt (window_bottom plan.windows b) (tile_top plan.raster tile) && int_lt (tile_bottom plan.raster tile) (window_top plan.windows b)))

-- the rules, the metal and the existing fill in the halo of a tile, each as far as its spacing, the keep-outs between its edges, and which
-- of the windows that touch the tile are low
pub record ReadSet : Type 0 where
  pub rules : Values
  pub layers : Layers
  pub low : WindowSet

abbrev pub layers_near : Plan → Layers → ℕ → Layers
layers_near plan layers tile = record {
  metal = λ x y. layers.metal x y && in_halo plan.raster tile plan.spacing x y;
  fill = λ x y. layers.fill x y && in_halo plan.raster tile plan.fill_spacing x y;
  keep = λ x y. layers.keep x y && in_halo plan.raster tile (pos 0) x y;
}

abbrev pub read_set : Values → Layers → WindowSet → ℕ → ReadSet
read_set rules layers low tile = record {
  rules = rules;
  layers = layers_near (plan_of rules) layers tile;
  low = λ a b. low a b && touches (plan_of rules) tile a b;
}

-- the wanted places of a tile, by what was read
abbrev pub wanted_of : ReadSet → ℕ → PointSet
wanted_of read tile = wanted (plan_of read.rules) read.layers read.low tile
