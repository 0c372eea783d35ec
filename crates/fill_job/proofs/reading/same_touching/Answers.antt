use Rattle.std.proofs.Common.{rules}
use Rattle.fill_area.specs.Grid.{IsGrid}
use Rattle.fill_text.specs.ValuesOfRules.{values_of}
use Rattle.fill_job.specs.Plans.{plan_of}
use Rattle.fill_job.proofs.TileReads.{part_same}
use Rattle.fill_job.proofs.reading.same_touching.Goals as goal

pub returns : goal.returns
returns c =
    let grid : IsGrid c.windows.result = search rules in
    let e = c.halo-bounds.ensures in
    part_same (plan_of (values_of c.args.rules.now)) c.args.tile c.args.part.now c.args.low.now c.halo-bounds.result
    c.touching.result.0.start c.touching.result.0.end c.touching.result.1.start c.touching.result.1.end c.same_in_rows.result (rw c.windows.ensures at grid)
    (rw c.raster.ensures.raster at e.left) (rw c.raster.ensures.raster at e.bottom) (rw c.raster.ensures.raster at e.right) (rw c.raster.ensures.raster at e.top)
    (rw c.windows.ensures at c.touching.ensures.columns.exact) (rw c.windows.ensures at c.touching.ensures.rows.exact) c.requires.part c.same_in_rows.ensures
