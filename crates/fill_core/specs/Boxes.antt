-- Places of the raster with their boxes.
use Rattle.std.specs.Prelude.{ℕ, false, ◌&&◌, ◌||◌}
use Rattle.fill_base.specs.Squares.{area_between}
use Rattle.fill_area.specs.Density.{window_area}
use Rattle.fill_raster.specs.Axes.{first, past}
use Rattle.fill_raster.specs.Lattice.{Lattice, box_squares}
use Rattle.fill_job.specs.Plans.{Layers, Plan, PointSet, allowed, drawn_squares, in_window_of, low_windows}
use Rattle.fill_job.specs.Searches.{some_within}

abbrev pub no_places : PointSet
no_places i j = false

-- all places that may be filled and whose box lies wholly in a window that is low in metal and existing fill
abbrev pub low_fill : Plan → Layers → PointSet
low_fill plan layers i j = allowed plan layers i j && in_window_of plan (low_windows plan (drawn_squares layers)) i j

-- the squares of a set, and those of the boxes of some places of the raster
abbrev pub with_boxes : Plan → PointSet → PointSet → PointSet
with_boxes plan drawn fill x y = drawn x y || some_within (λ i j. fill i j && box_squares plan.raster i j x y) (first plan.raster.across) (first plan.raster.up) (past plan.raster.across) (past plan.raster.up)

-- how many places of the raster are in the set
abbrev pub count_places : Lattice → PointSet → ℕ
count_places r p = area_between p (first r.across) (first r.up) (past r.across) (past r.up)

-- how many squares of a window are in a set or in the box of a filled place
abbrev pub total_in : Plan → PointSet → PointSet → ℕ → ℕ → ℕ
total_in plan drawn fill a b = window_area (with_boxes plan drawn fill) plan.windows a b
