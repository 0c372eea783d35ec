use Rattle.std.proofs.Common.{◌<◌, subst, sym}
use Rattle.fill_raster.specs.Lattice.{tiles}
use Rattle.fill_text.specs.Rules.{Values}
use Rattle.fill_job.specs.Plans.{plan_of}
use Rattle.fill_job.proofs.TileReads.{low_touches, read_is_set}
use Rattle.fill_job.proofs.job.Job.new.Goals as goal

pub invariant_of-result : goal.invariant_of-result
invariant_of-result c = record {
  exists = subst (λ (v : Values). c.args.tile < tiles (plan_of v).raster) (sym c.in_ok-basis.ensures.rules) c.requires.tile;
  reads = low_touches c.args.rules c.in_ok-basis.basis.rules c.args.low.now c.in_ok-basis.basis.low c.args.tile c.in_ok-basis.ensures.rules c.in_ok-basis.ensures.low;
}

pub returns-clause-read : goal.returns-clause-read
returns-clause-read c = λ layers near.
    read_is_set c.args.rules c.in_ok-basis.basis.rules layers c.args.pieces c.in_ok-basis.basis.pieces c.args.low.now c.in_ok-basis.basis.low c.args.tile
    c.in_ok-basis.ensures.rules c.in_ok-basis.ensures.pieces near c.in_ok-basis.ensures.low
