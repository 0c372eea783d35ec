-- When a fill is right.
use Rattle.std.specs.Prelude.{◌≡◌, ℤ, true}
use Rattle.fill_raster.specs.Lattice.{in_raster, box_squares}
use Rattle.fill_size.specs.Distance.{InConflict}
use Rattle.fill_area.specs.Sharing.{ShareASquare}
use Rattle.fill_job.specs.Plans.{Layers, Plan, PointSet}

-- each filled place is on the raster, and its box keeps the spacing to the metal and the fill spacing to existing fill, and shares no
-- square with a keep-out; and the boxes of two of them keep the fill spacing to one another
pub record IsSound (plan : Plan) (layers : Layers) (fill : PointSet) : Type 0 where
  pub on_raster : (i j : ℤ) → fill i j ≡ true → in_raster plan.raster i j ≡ true
  pub clear : (i j : ℤ) → fill i j ≡ true → ¬ InConflict layers.metal (box_squares plan.raster i j) plan.spacing
  pub uncrowded : (i j : ℤ) → fill i j ≡ true → ¬ InConflict layers.fill (box_squares plan.raster i j) plan.fill_spacing
  pub free : (i j : ℤ) → fill i j ≡ true → ¬ ShareASquare layers.keep (box_squares plan.raster i j)
  pub apart : (i j k l : ℤ) → fill i j ≡ true → fill k l ≡ true → ¬ ((i ≡ k) × (j ≡ l)) → ¬ InConflict (box_squares plan.raster i j) (box_squares plan.raster k l) plan.fill_spacing
