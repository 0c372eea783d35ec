use Rattle.std.proofs.Common.{◌+◌, ◌≤◌, ◌<◌, length, arith}
use Rattle.fill_base.proofs.Signed.{read, read_is}
use Rattle.fill_region.proofs.RowIntervals.{no_intervals, one_interval, all_intervals}
use Rattle.fill_region.proofs.rows.intervals.Goals as goal

pub intervals-init : goal.intervals-init
intervals-init c = rw (c.in_ok-rects.ensures.items) (no_intervals c.edges-edges.result.now (read c.args.bottom) (read c.args.top) c.edges-edges.ensures.canonical)

pub intervals-preserved : goal.intervals-preserved
intervals-preserved c =
    let within : c.intervals.k + 1 < length c.edges-edges.result.now = omega (arith, c.intervals-test.true) in
    rw (c.in_ok-push.ensures.items) (one_interval c.edges-edges.result.now (read c.args.bottom) (read c.args.top) c.intervals.k c.intervals.rects.items c.interval_at.result c.edges-edges.ensures.canonical
    (rw (read_is c.args.bottom c.ranges.bottom, read_is c.args.top c.ranges.top) c.requires.tall) within c.interval_at.ensures c.intervals.invariant)

pub returns-clause-runs : goal.returns-clause-runs
returns-clause-runs c =
    let past : length c.edges-edges.result.now ≤ c.intervals.k + 1 = omega (arith, c.intervals-test.false) in
    rw (c.edges-edges.ensures.edges, read_is c.args.bottom c.ranges.bottom, read_is c.args.top c.ranges.top) at
    (all_intervals c.edges-edges.result.now (read c.args.bottom) (read c.args.top) c.intervals.k c.intervals.rects.items c.edges-edges.ensures.canonical past c.intervals.invariant)

pub returns-clause-row : goal.returns-clause-row
returns-clause-row c = rw (read_is c.args.bottom c.ranges.bottom, read_is c.args.top c.ranges.top) at c.intervals.invariant.row
