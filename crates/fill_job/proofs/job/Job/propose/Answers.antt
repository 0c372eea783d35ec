use Rattle.fill_job.proofs.job.Job.propose.Goals as goal

pub mark_tile-requires-clause-block : goal.mark_tile-requires-clause-block
mark_tile-requires-clause-block c = rw c.raster.ensures.raster at c.in-Ok.ensures.tile
