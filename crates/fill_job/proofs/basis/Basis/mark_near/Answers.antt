use Rattle.std.proofs.Common.{◌∙◌, rules}
use Rattle.fill_base.proofs.Signed.{read_is}
use Rattle.fill_region.specs.Runs.{holds}
use Rattle.fill_raster.specs.Lattice.{IsLattice}
use Rattle.fill_job.specs.Basis.{plan_by}
use Rattle.fill_job.proofs.Reaching.{reaches_rising, lines_fit, lines_fit_above, lines_read, lines_ordered, first_in, met_places, none_met}
use Rattle.fill_job.proofs.basis.Basis.mark_near.Goals as goal

pub box_of-rect-requires : goal.box_of-rect-requires
box_of-rect-requires c = rw (c.raster.ensures.raster, read_is c.args.left c.ranges.left, read_is c.args.j c.ranges.j) (c.requires.places c.args.left (first_in c.args.left c.args.right c.requires.some))

pub overflow_sub-y1 : goal.overflow_sub-y1
overflow_sub-y1 c = lines_fit c.box_of-rect.result c.args.distance c.y1.result c.requires.distance c.y1.ensures

pub overflow_add-y2 : goal.overflow_add-y2
overflow_add-y2 c = lines_fit_above c.box_of-rect.result c.args.distance c.y2.result c.requires.distance c.y2.ensures

pub returns-then-is_empty-clause-near : goal.returns-then-is_empty-clause-near
returns-then-is_empty-clause-near c = none_met (plan_by c.args.self.now).raster c.args.distance (holds c.args.region.now) c.args.left c.args.j c.args.near.now (c.is_empty.ensures.0 c.if-is_empty.true)

pub mark_met-requires-clause-rising : goal.mark_met-requires-clause-rising
mark_met-requires-clause-rising c =
    let lattice : IsLattice c.raster.result = search rules in
    reaches_rising (plan_by c.args.self.now).raster c.args.distance c.args.left c.args.right c.args.j c.args.reaches.now c.requires.some (rw c.raster.ensures.raster at lattice) c.requires.distance c.requires.places c.requires.reaches

pub mark_met-requires-clause-ordered : goal.mark_met-requires-clause-ordered
mark_met-requires-clause-ordered c =
    let lines = lines_read c.box_of-rect.result c.args.distance c.y1.result c.y2.result c.requires.distance c.y1.ensures c.y2.ensures in
    rw (lines.0, lines.1) (lines_ordered c.box_of-rect.result c.args.distance c.requires.distance)

pub returns-clause-near : goal.returns-clause-near
returns-clause-near c =
    let p = plan_by c.args.self.now in
    let lattice : IsLattice c.raster.result = search rules in
    let lines = lines_read c.box_of-rect.result c.args.distance c.y1.result c.y2.result c.requires.distance c.y1.ensures c.y2.ensures in
    let bottom = rw (c.raster.ensures.raster, read_is c.args.j c.ranges.j) at c.box_of-rect.ensures.bottom in
    let top = rw (c.raster.ensures.raster, read_is c.args.j c.ranges.j) at c.box_of-rect.ensures.top in
    met_places p.raster c.args.distance (holds c.args.region.now) c.args.left c.args.right c.args.j c.args.reaches.now c.args.near.now c.mark_met.new.marks (rw c.raster.ensures.raster at lattice) c.requires.distance c.requires.reaches c.requires.count
    (c.mark_met.ensures.count ∙ c.requires.count)
    (rw (lines.0, lines.1, bottom, top) at c.mark_met.ensures.marked)
