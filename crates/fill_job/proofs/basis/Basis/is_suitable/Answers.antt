use Rattle.fill_job.specs.Basis.{layers_by, plan_by}
use Rattle.fill_job.proofs.LowWindows.{free_is}
use Rattle.fill_job.proofs.basis.Basis.is_suitable.Goals as goal

pub returns-then-not-taken : goal.returns-then-not-taken
returns-then-not-taken c = free_is (plan_by c.args.self.now) (layers_by c.args.self.now) c.args.self.now.low c.args.place.i c.args.place.j c.box_of.result c.args.taken c.is_in_low.result
    (rw c.raster.ensures.raster at c.box_of.ensures.left) (rw c.raster.ensures.raster at c.box_of.ensures.bottom)
    (rw c.raster.ensures.raster at c.box_of.ensures.right) (rw c.raster.ensures.raster at c.box_of.ensures.top) c.requires.taken c.if-not-taken.true c.is_in_low.ensures
