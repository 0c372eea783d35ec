-- Which places of the raster may be filled, and which of them are wanted.
use Rattle.std.specs.Prelude.{ℕ, ℤ, pos, ◌+ℤ◌, ◌-ℤ◌, ◌*ℤ◌, Bool, ◌&&◌, ◌||◌, not, nat_lt, int_le, int_lt}
use Rattle.fill_base.specs.Limits.{IsSpacing}
use Rattle.fill_area.specs.Density.{IsShare, window_area}
use Rattle.fill_area.specs.Grid.{Grid, IsGrid, counted_size, window_left, window_right, window_bottom, window_top}
use Rattle.fill_raster.specs.Axes.{box_begin, box_end}
use Rattle.fill_raster.specs.Lattice.{Lattice, IsLattice, KeepsPitch, in_raster, in_tile}
use Rattle.fill_text.specs.Rules.{Values, value_of, raster_of, windows_of}
use Rattle.fill_text.specs.declared.keys.NumberKey.TheVariants as number
use Rattle.fill_job.specs.Searches.{some_pair, some_within}

-- a set of squares or of places, and a set of windows by column and row
abbrev pub PointSet : Type 0
PointSet = ℤ → ℤ → Bool

abbrev pub WindowSet : Type 0
WindowSet = ℕ → ℕ → Bool

-- what the rules say of a fill: its places, the density windows, the least gap to drawn metal, that to existing fill and between
-- boxes, and the least share of a window, in parts of a million
pub record Plan : Type 0 where
  pub raster : Lattice
  pub windows : Grid
  pub spacing : ℤ
  pub fill_spacing : ℤ
  pub least : ℤ

abbrev pub plan_of : Values → Plan
plan_of values = record {
  raster = raster_of values.numbers;
  windows = windows_of values;
  spacing = value_of values number.Spacing;
  fill_spacing = value_of values number.FillSpacing;
  least = value_of values number.Min;
}

-- each number is in its range, and the steps keep the boxes apart
pub record IsPlan (plan : Plan) : Type 0 where
  pub raster : IsLattice plan.raster
  pub windows : IsGrid plan.windows
  pub spacing : IsSpacing plan.spacing
  pub fill_spacing : IsSpacing plan.fill_spacing
  pub pitch : KeepsPitch plan.raster plan.fill_spacing
  pub least : IsShare plan.least

-- what is there before a fill: the squares of metal, of existing fill, and of keep-outs
pub record Layers : Type 0 where
  pub metal : PointSet
  pub fill : PointSet
  pub keep : PointSet

-- what counts of a design: metal and existing fill together
abbrev pub drawn_squares : Layers → PointSet
drawn_squares layers x y = layers.metal x y || layers.fill x y

-- some square of `p` is in the box of the place, grown by a distance on all sides
unfoldable pub meets_box : Lattice → ℤ → PointSet → ℤ → ℤ → Bool
meets_box r d p i j = some_within p (box_begin r.across i -ℤ d) (box_begin r.up j -ℤ d) (box_end r.across i +ℤ d) (box_end r.up j +ℤ d)

-- metal comes nearer to the box of the place than the spacing; existing fill comes nearer than the fill spacing; a keep-out shares
-- a square with it
abbrev pub conflicts : Plan → PointSet → ℤ → ℤ → Bool
conflicts plan metal i j = meets_box plan.raster plan.spacing metal i j

abbrev pub crowded : Plan → PointSet → ℤ → ℤ → Bool
crowded plan fill i j = meets_box plan.raster plan.fill_spacing fill i j

abbrev pub blocked : Plan → PointSet → ℤ → ℤ → Bool
blocked plan keep i j = meets_box plan.raster (pos 0) keep i j

abbrev pub is_taken : Plan → Layers → ℤ → ℤ → Bool
is_taken plan layers i j = (conflicts plan layers.metal i j || crowded plan layers.fill i j) || blocked plan layers.keep i j

-- the place may be filled: it is on the raster, and neither metal nor existing fill nor a keep-out takes it
abbrev pub allowed : Plan → Layers → ℤ → ℤ → Bool
allowed plan layers i j = in_raster plan.raster i j && not (is_taken plan layers i j)

-- the windows whose share of `p` is below the least
abbrev pub low_windows : Plan → PointSet → WindowSet
low_windows plan p a b = nat_lt a plan.windows.across.count && (nat_lt b plan.windows.up.count && int_lt (pos (window_area p plan.windows a b) *ℤ pos 1000000) (plan.least *ℤ counted_size plan.windows a b))

-- the window in column `a` and row `b` holds the whole box of the place
abbrev pub holds_box : Plan → ℕ → ℕ → ℤ → ℤ → Bool
holds_box plan a b i j = (int_le (window_left plan.windows a) (box_begin plan.raster.across i) && int_le (box_end plan.raster.across i) (window_right plan.windows a)) && (int_le (window_bottom plan.windows b) (box_begin plan.raster.up j) && int_le (box_end plan.raster.up j) (window_top plan.windows b))

-- some window of the set holds the whole box
unfoldable pub in_window_of : Plan → WindowSet → ℤ → ℤ → Bool
in_window_of plan low i j = some_pair (λ a b. low a b && holds_box plan a b i j) plan.windows.across.count plan.windows.up.count

-- neither metal nor existing fill nor a keep-out takes the place, and its box lies wholly in a low window
abbrev pub is_suitable : Plan → Layers → WindowSet → ℤ → ℤ → Bool
is_suitable plan layers low i j = not (is_taken plan layers i j) && in_window_of plan low i j

-- the place is wanted in its tile: it may be filled, and its box lies wholly in a low window
abbrev pub wanted : Plan → Layers → WindowSet → ℕ → ℤ → ℤ → Bool
wanted plan layers low tile i j = in_tile plan.raster tile i j && is_suitable plan layers low i j
