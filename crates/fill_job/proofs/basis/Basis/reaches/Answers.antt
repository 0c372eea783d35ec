use Rattle.std.proofs.Common.{◌≡◌, pos, ◌+ℤ◌}
use Rattle.fill_base.proofs.Between.{is_between_true}
use Rattle.fill_base.proofs.Signed.{read, read_is, is_lt}
use Rattle.fill_job.specs.Basis.{plan_by}
use Rattle.fill_job.proofs.Marking.{next_within, next_fits, not_lt}
use Rattle.fill_job.proofs.Reaching.{columns_fit, reach_more, reaches_all}
use Rattle.fill_job.proofs.basis.Basis.reaches.Goals as goal

pub box_of-rect-requires : goal.box_of-rect-requires
box_of-rect-requires c =
    let from = rw (c.loop-i.i-is, read_is c.args.left c.ranges.left) at c.loop-i.invariant.from in
    let lt = is_lt c.loop-i.i c.args.right (rw (c.loop-i.i-is, read_is c.args.right c.ranges.right) at c.loop-i-test.true) in
    rw (c.raster.ensures.raster, c.loop-i.i-is, read_is c.args.j c.ranges.j) (c.requires.places c.loop-i.i (is_between_true c.args.left c.args.right c.loop-i.i from lt))

pub overflow_sub-x1 : goal.overflow_sub-x1
overflow_sub-x1 c =
    columns_fit c.box_of-rect.result c.args.distance c.x1.result c.requires.distance c.x1.ensures

pub loop-i-preserved : goal.loop-i-preserved
loop-i-preserved c =
    let p = plan_by c.args.self.now in
    let i = c.loop-i.i in
    let distance = read_is c.args.distance c.ranges.distance in
    let inv = rw (c.loop-i.i-is, read_is c.args.left c.ranges.left, read_is c.args.right c.ranges.right, distance) at c.loop-i.invariant in
    let lt = is_lt i c.args.right (rw (c.loop-i.i-is, read_is c.args.right c.ranges.right) at c.loop-i-test.true) in
    let step = next_within c.args.left c.args.right i inv.from lt in
    let next : read (i +ℤ pos 1) ≡ i +ℤ pos 1 = read_is (i +ℤ pos 1) (next_fits c.args.left c.args.right i c.ranges.left c.ranges.right inv.from lt) in
    let left = rw (c.raster.ensures.raster, c.loop-i.i-is) at c.box_of-rect.ensures.left in
    let right = rw (c.raster.ensures.raster, c.loop-i.i-is) at c.box_of-rect.ensures.right in
    rw (c.loop-i.i-is, read_is c.args.left c.ranges.left, read_is c.args.right c.ranges.right, distance, next) (record {
      from = step.0;
      to = step.1;
      are = reach_more p.raster c.args.left i c.loop-i.reaches.items c.push.new.self.items c.box_of-rect.result c.args.distance c.x1.result c.x2.result inv.are inv.from c.requires.distance left right c.x1.ensures c.x2.ensures c.in_ok-push.ensures.items;
    })

pub returns : goal.returns
returns c =
    let inv = rw (c.loop-i.i-is, read_is c.args.left c.ranges.left, read_is c.args.right c.ranges.right, read_is c.args.distance c.ranges.distance) at c.loop-i.invariant in
    let past = not_lt c.loop-i.i c.args.right (rw (c.loop-i.i-is, read_is c.args.right c.ranges.right) at c.loop-i-test.false) in
    reaches_all (plan_by c.args.self.now).raster c.args.distance c.args.left c.args.right c.loop-i.i c.loop-i.reaches.items c.requires.some inv.to past inv.are
