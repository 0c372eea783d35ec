use Rattle.std.proofs.Common.{rules}
use Rattle.std.proofs.lemmas.Result.{IfOk-weaker}
use Rattle.fill_area.specs.Grid.{IsGrid}
use Rattle.fill_text.specs.ValuesOfRules.{values_of}
use Rattle.fill_job.specs.Plans.{plan_of}
use Rattle.fill_job.proofs.TileReads.{part_inside, part_touched}
use Rattle.fill_job.proofs.reading.touching.Goals as goal

pub returns-clause-inside : goal.returns-clause-inside
returns-clause-inside c = IfOk-weaker c.within.result _ _ (λ r is. part_inside c.args.low.now r c.touching.result.0.start c.touching.result.0.end c.touching.result.1.start c.touching.result.1.end is) c.within.ensures

pub returns-clause-low : goal.returns-clause-low
returns-clause-low c =
    let grid : IsGrid c.windows.result = search rules in
    let e = c.halo-bounds.ensures in
    IfOk-weaker c.within.result _ _ (λ r is.
    part_touched (plan_of (values_of c.args.rules.now)) c.args.tile c.args.low.now r c.halo-bounds.result
    c.touching.result.0.start c.touching.result.0.end c.touching.result.1.start c.touching.result.1.end (rw c.windows.ensures at grid)
    (rw c.raster.ensures.raster at e.left) (rw c.raster.ensures.raster at e.bottom) (rw c.raster.ensures.raster at e.right) (rw c.raster.ensures.raster at e.top)
    (rw c.windows.ensures at c.touching.ensures.columns.exact) (rw c.windows.ensures at c.touching.ensures.rows.exact) is) c.within.ensures
