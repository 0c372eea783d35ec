use Rattle.std.proofs.Common.{refl}
use Rattle.fill_base.specs.Coordinates.{lowest, highest}
use Rattle.fill_base.proofs.Signed.{read}
use Rattle.fill_region.proofs.Rising.{none_risen, one_risen, all_risen, row_lines}
use Rattle.fill_region.proofs.rows.runs_of_bands.Goals as goal

pub rows-init : goal.rows-init
rows-init c =
    let rows = c.rows-row-items.ensures in
    rw (c.into_iter-row-iterator.ensures.into_iter_gives, c.new-recent.ensures.items, c.new-ended.ensures.items)
    (none_risen c.args.bands.now c.rows-row-items.result lowest highest refl refl rows.region rows.top rows.begins rows.passed rows.in_range)

pub intervals-requires-clause-low : goal.intervals-requires-clause-low
intervals-requires-clause-low c = (row_lines c.args.bands.now c.rows.row-iterator c.in-Some.row c.next.new.self c.rows.recent.items c.rows.ended.items c.in-Some.ensures.steps c.rows.invariant).low

pub intervals-requires-clause-tall : goal.intervals-requires-clause-tall
intervals-requires-clause-tall c = (row_lines c.args.bands.now c.rows.row-iterator c.in-Some.row c.next.new.self c.rows.recent.items c.rows.ended.items c.in-Some.ensures.steps c.rows.invariant).tall

pub intervals-requires-clause-high : goal.intervals-requires-clause-high
intervals-requires-clause-high c = (row_lines c.args.bands.now c.rows.row-iterator c.in-Some.row c.next.new.self c.rows.recent.items c.rows.ended.items c.in-Some.ensures.steps c.rows.invariant).high

pub rows-preserved : goal.rows-preserved
rows-preserved c =
    let lines = row_lines c.args.bands.now c.rows.row-iterator c.in-Some.row c.next.new.self c.rows.recent.items c.rows.ended.items c.in-Some.ensures.steps c.rows.invariant in
    one_risen c.args.bands.now c.rows.row-iterator c.in-Some.row c.next.new.self c.rows.recent.items c.rows.ended.items c.in_ok-begun.begun.items c.in_ok-recent.recent.items c.row_upon.new.ended.items (read c.in-Some.row.bottom) (read c.in-Some.row.top) lines.bottom_is lines.top_is
    c.in-Some.ensures.steps c.rows.invariant c.in_ok-begun.ensures.runs c.in_ok-begun.ensures.row (rw (c.deref.ensures.value, c.deref-in-rows.ensures.value) at c.in_ok-recent.ensures.stacked)
    c.in_ok-recent.ensures.rising (rw (c.deref-in-rows.ensures.value) at c.in_ok-recent.ensures.tops) (rw (c.deref.ensures.value) at c.in_ok-recent.ensures.below)

pub returns : goal.returns
returns c = rw (c.in_ok-append.ensures.items) (all_risen c.args.bands.now c.rows.row-iterator c.next.new.self c.rows.recent.items c.rows.ended.items c.in-None.ensures.steps c.rows.invariant)
