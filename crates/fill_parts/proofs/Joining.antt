-- All parts together.
use Rattle.std.proofs.Common.{◌≡◌, ℕ, ◌<◌, ℤ, true}
use Rattle.std.proofs.Math.Path.{fun_ext}
use Rattle.std.proofs.lemmas.Bool.{and_from, and_parts}
use Rattle.fill_raster.specs.Axes.{bands}
use Rattle.fill_raster.specs.Lattice.{in_raster, tile_of}
use Rattle.fill_raster.proofs.Blocks.{tile_parts}
use Rattle.fill_raster.proofs.Ranges.{both}
use Rattle.fill_job.specs.Plans.{Plan, Layers}
use Rattle.fill_job.specs.Searches.{some_below}
use Rattle.fill_job.proofs.Searching.{some_below_finds, some_below_has}
use Rattle.fill_core.specs.Boxes.{low_fill}
use Rattle.fill_parts.specs.Needs.{row_at}
use Rattle.fill_parts.specs.PartFill.{part_fill}
use Rattle.fill_parts.specs.Laws.{HasOnePart, PartsMakeTheFill, PartsAreApart, part}
use Rattle.fill_parts.specs.Smaller.{IsPlanOfAnySize}
use Rattle.fill_parts.proofs.Cutting.{one_part, row_of_is, same_part}
use Rattle.fill_parts.proofs.Leveling.{place_tile}

low_on : (plan : Plan) (layers : Layers) (i j : ℤ) → low_fill plan layers i j ≡ true → in_raster plan.raster i j ≡ true
low_on plan layers i j h = (and_parts (in_raster plan.raster i j) _ (and_parts _ _ h).0).0

own_part : (plan : Plan) (i j : ℤ) (count : ℕ) → IsPlanOfAnySize plan → 0 < count → in_raster plan.raster i j ≡ true → HasOnePart (bands plan.raster.up) count (row_at plan.raster i j)
own_part plan i j count is some on = one_part (bands plan.raster.up) count (row_at plan.raster i j) some (tile_parts plan.raster (tile_of plan.raster i j) (place_tile plan.raster i j is.axes.places_across is.axes.places_up on)).row_below

pub parts_fill : PartsMakeTheFill
parts_fill plan layers count is some = fun_ext (λ i. fun_ext (λ j.
    both (some_below (λ k. part_fill plan layers (part k count) i j) count) (low_fill plan layers i j)
    (λ h. let found = some_below_finds (λ k. part_fill plan layers (part k count) i j) count h in (and_parts (low_fill plan layers i j) _ found.2).0)
    (λ h. let own = own_part plan i j count is some (low_on plan layers i j h) in some_below_has (λ k. part_fill plan layers (part k count) i j) count own.number own.below (and_from _ _ h own.has))))

pub parts_apart : PartsAreApart
parts_apart plan layers count k l i j is some h g =
    let rows = bands plan.raster.up in let row = row_at plan.raster i j in
    same_part rows count k l row some (row_of_is (part k count) rows row (and_parts (low_fill plan layers i j) _ h).1) (row_of_is (part l count) rows row (and_parts (low_fill plan layers i j) _ g).1)
