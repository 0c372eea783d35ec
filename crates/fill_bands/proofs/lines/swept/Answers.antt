use Rattle.std.proofs.Common.{to_z, w64, ◌<ℤ◌, []}
use Rattle.fill_spans.specs.Spans.{ceiling}
use Rattle.fill_bands.proofs.UpwardSweep.{SweptTo, swept_start, swept_turn, swept_smaller, swept_squares, swept_region, turn_read, line_fits, line_is, goes_on, ended}
use Rattle.fill_bands.proofs.lines.swept.Goals as goal

pub sweep-init : goal.sweep-init
sweep-init c =
    rw (c.new-crossing.ensures.items, c.new-bands.ensures.items, c.as_slice-later.ensures.value)
    (turn_read c.args.rects.now c.in_ok-sorted.sorted.items [] [] c.in_ok-sorted.line
    (swept_start c.args.rects.now c.in_ok-sorted.sorted.items c.in_ok-sorted.line c.in_ok-sorted.ensures))

pub step-requires-clause-at : goal.step-requires-clause-at
step-requires-clause-at c = c.sweep.invariant.at

pub step-requires-clause-low : goal.step-requires-clause-low
step-requires-clause-low c = goes_on (to_z w64 c.sweep.line-bits) c.from.result c.from.ensures c.sweep-test.true

pub overflow_cast-line : goal.overflow_cast-line
overflow_cast-line c = line_fits c.args.rects.now c.sweep.later.now c.sweep.crossing.items c.sweep.bands.items (to_z w64 c.sweep.line-bits) c.sweep.invariant
    (goes_on (to_z w64 c.sweep.line-bits) c.from.result c.from.ensures c.sweep-test.true)

pub across-requires : goal.across-requires
across-requires c = rw c.deref.ensures.value c.in_ok-rest.ensures.at.lefts

turned : (c : goal.In_ok-put_row) → (to_z w64 c.sweep.line-bits <ℤ c.in_ok-rest.next) × SweptTo c.args.rects.now c.in_ok-rest.rest.now c.step.new.crossing.items c.put_row.new.out.items c.in_ok-rest.next
turned c =
    let line = to_z w64 c.sweep.line-bits in
    let high : line <ℤ ceiling = goes_on line c.from.result c.from.ensures c.sweep-test.true in
    swept_turn c.args.rects.now c.sweep.later.now c.in_ok-rest.rest.now c.sweep.crossing.items c.step.new.crossing.items c.sweep.bands.items c.put_row.new.out.items
    c.in_ok-row.row line c.in_ok-rest.next c.sweep.invariant c.in_ok-rest.ensures c.in_ok-row.ensures.canonical (rw c.deref.ensures.value at c.in_ok-row.ensures.members)
    (rw (line_is c.args.rects.now c.sweep.later.now c.sweep.crossing.items c.sweep.bands.items line c.sweep.invariant high) at c.in_ok-put_row.ensures)

pub sweep-smaller : goal.sweep-smaller
sweep-smaller c = swept_smaller c.args.rects.now c.in_ok-rest.rest.now c.step.new.crossing.items c.put_row.new.out.items (to_z w64 c.sweep.line-bits) c.in_ok-rest.next (turned c)

pub sweep-preserved : goal.sweep-preserved
sweep-preserved c = turn_read c.args.rects.now c.in_ok-rest.rest.now c.step.new.crossing.items c.put_row.new.out.items c.in_ok-rest.next (turned c).1

pub returns-clause-region : goal.returns-clause-region
returns-clause-region c = swept_region c.args.rects.now c.sweep.later.now c.sweep.crossing.items c.sweep.bands.items (to_z w64 c.sweep.line-bits) c.sweep.invariant
    (ended (to_z w64 c.sweep.line-bits) c.from.result c.from.ensures c.sweep-test.false)

pub returns-clause-squares : goal.returns-clause-squares
returns-clause-squares c = swept_squares c.args.rects.now c.sweep.later.now c.sweep.crossing.items c.sweep.bands.items (to_z w64 c.sweep.line-bits) c.sweep.invariant
    (ended (to_z w64 c.sweep.line-bits) c.from.result c.from.ensures c.sweep-test.false)
