use Rattle.fill_base.proofs.Areas.{read_x1, read_x2, read_y1, read_y2}
use Rattle.fill_base.proofs.Signed.{read_is}
use Rattle.fill_region.specs.Runs.{holds}
use Rattle.fill_size.proofs.Marking.{none_met, met_on, marked_by, unmarked_by, all_met, not_from}
use Rattle.fill_size.proofs.meeting.mark_met.Goals.{then-have_common, else-have_common}
use Rattle.fill_size.proofs.meeting.mark_met.Goals as goal

pub loop-run-init : goal.loop-run-init
loop-run-init c = none_met c.args.ranges.now c.args.marks.now c.runs_level-run-items.result.now _ _

pub loop-run-preserved : goal.loop-run-preserved
loop-run-preserved c =
    let run = c.run-item.result in
    let test = rw (c.y1.ensures, c.y2.ensures, read_y1 run, read_y2 run) at c.have_common.ensures in
    elim c.if-have_common.branch [
      | then-have_common w ↦ rw (w.marks-is) (met_on c.args.ranges.now c.args.marks.now c.loop-run.marks w.mark_between.new.marks c.runs_level-run-items.result.now c.loop-run.run-index run _ _ c.loop-run-test.true c.run-item.is c.loop-run.invariant
          (marked_by c.args.ranges.now c.loop-run.marks w.mark_between.new.marks run _ _ (test.0 w.if-have_common.true) (rw (w.x1.ensures, w.x2.ensures, read_x1 run, read_x2 run) at w.mark_between.ensures.marked)))
      | else-have_common w ↦ rw (w.marks-is) (met_on c.args.ranges.now c.args.marks.now c.loop-run.marks c.loop-run.marks c.runs_level-run-items.result.now c.loop-run.run-index run _ _ c.loop-run-test.true c.run-item.is c.loop-run.invariant
          (unmarked_by c.args.ranges.now c.loop-run.marks run _ _ (not_from c.have_common.result test w.if-have_common.false)))
    ]

pub returns-clause-marked : goal.returns-clause-marked
returns-clause-marked c = all_met (holds c.args.region.now) c.args.ranges.now c.args.marks.now c.loop-run.marks c.runs_level-run-items.result.now c.loop-run.run-index c.args.bottom c.args.top
    c.loop-run-test.false (rw (read_is c.args.bottom c.ranges.bottom, read_is c.args.top c.ranges.top) at c.runs_level-run-items.ensures.cover) (rw (read_is c.args.bottom c.ranges.bottom, read_is c.args.top c.ranges.top) at c.loop-run.invariant)
