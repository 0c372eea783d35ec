use Rattle.std.proofs.Common.{to_z, w64, []}
use Rattle.fill_region.proofs.Swept.{none_swept, one_swept, all_swept, line_read, swept_read, nearer, goes_on, over_at}
use Rattle.fill_region.proofs.sweep.runs_swept.Goals as goal

pub sweep-init : goal.sweep-init
sweep-init c =
    rw (c.new-crossing.ensures.items, c.new-recent.ensures.items, c.new-ended.ensures.items, c.as_slice-later.ensures.value)
    (swept_read c.args.rects.now c.in_ok-sorted.sorted.items [] [] [] c.in_ok-sorted.line (none_swept c.args.rects.now c.in_ok-sorted.sorted.items c.in_ok-sorted.line c.in_ok-sorted.ensures))

pub step-requires-clause-at : goal.step-requires-clause-at
step-requires-clause-at c = c.sweep.invariant.at

pub step-requires-clause-low : goal.step-requires-clause-low
step-requires-clause-low c = goes_on (to_z w64 c.sweep.line-bits) c.from.result c.from.ensures c.sweep-test.true

pub crossed_intervals-requires-clause-rising : goal.crossed_intervals-requires-clause-rising
crossed_intervals-requires-clause-rising c = rw (c.deref.ensures.value) c.in_ok-rest.ensures.at.lefts

pub sweep-smaller : goal.sweep-smaller
sweep-smaller c = nearer c.in_ok-rest.rest.now c.step.new.crossing.items (to_z w64 c.sweep.line-bits) c.in_ok-rest.next c.in_ok-rest.ensures.further c.in_ok-rest.ensures.at

pub sweep-preserved : goal.sweep-preserved
sweep-preserved c =
    let next = line_read c.in_ok-rest.rest.now c.step.new.crossing.items c.in_ok-rest.next c.in_ok-rest.ensures.at in
    swept_read c.args.rects.now c.in_ok-rest.rest.now c.step.new.crossing.items c.in_ok-recent.recent.items c.row_upon.new.ended.items c.in_ok-rest.next
    (one_swept c.args.rects.now c.sweep.later.now c.in_ok-rest.rest.now c.sweep.crossing.items c.step.new.crossing.items c.sweep.recent.items c.sweep.ended.items c.in_ok-row.row.items
    c.in_ok-recent.recent.items c.row_upon.new.ended.items (to_z w64 c.sweep.line-bits) c.in_ok-rest.next c.sweep.invariant c.in_ok-rest.ensures c.in_ok-row.ensures.runs
    (rw (next, c.deref.ensures.value) at c.in_ok-row.ensures.same) (rw (next) at c.in_ok-row.ensures.row) (rw (c.deref-in-sweep.ensures.value, c.deref-in-sweep-2.ensures.value) at c.in_ok-recent.ensures.stacked)
    c.in_ok-recent.ensures.rising (rw (c.deref-in-sweep-2.ensures.value) at c.in_ok-recent.ensures.tops) (rw (c.deref-in-sweep.ensures.value) at c.in_ok-recent.ensures.below))

pub returns : goal.returns
returns c = rw (c.in_ok-append.ensures.items) (all_swept c.args.rects.now c.sweep.later.now c.sweep.crossing.items c.sweep.recent.items c.sweep.ended.items (to_z w64 c.sweep.line-bits) c.sweep.invariant
    (over_at (to_z w64 c.sweep.line-bits) c.from.result c.from.ensures c.sweep-test.false))
