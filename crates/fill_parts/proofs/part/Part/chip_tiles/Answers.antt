use Rattle.std.proofs.Common.{◌≡◌, ◌∙◌}
use Rattle.fill_base.proofs.Signed.{read}
use Rattle.fill_parts.specs.PartRows.{begins_by, ends_from}
use Rattle.fill_parts.proofs.Chipping.{before_few, coordinate_read, first_few}
use Rattle.fill_parts.proofs.Looking.{past_within}
use Rattle.fill_parts.proofs.part.Part.chip_tiles.Goals as goal

pub frame_lines-begins_by-requires-clause-within : goal.frame_lines-begins_by-requires-clause-within
frame_lines-begins_by-requires-clause-within c = rw c.requires.to (past_within _ c.args.windows.count)

pub begun_up_to-first-requires-clause-last : goal.begun_up_to-first-requires-clause-last
begun_up_to-first-requires-clause-last c = rw c.needed_tiles-needed.ensures.from (first_few _ _)

pub ended_from-requires-clause-needed : goal.ended_from-requires-clause-needed
ended_from-requires-clause-needed c = rw c.needed_tiles-needed.ensures.to (past_within _ _)

pub ended_from-requires-clause-first : goal.ended_from-requires-clause-first
ended_from-requires-clause-first c = rw c.begun_up_to-first.ensures (before_few _ _)

pub returns-clause-from : goal.returns-clause-from
returns-clause-from c =
    let line : read c.frame_lines-begins_by.result.0 ≡ begins_by c.args.ignores c.args.self c.args.places c.args.windows = coordinate_read _ c.frame_lines-begins_by.ensures.bottom ∙ (rw c.requires.from at c.frame_lines-begins_by.ensures.begins) in
    rw (c.needed_tiles-needed.ensures.from, line) at c.begun_up_to-first.ensures

pub returns-clause-to : goal.returns-clause-to
returns-clause-to c =
    let line : read c.frame_lines-begins_by.result.1 ≡ ends_from c.args.ignores c.args.self c.args.places c.args.windows = coordinate_read _ c.frame_lines-begins_by.ensures.top ∙ (rw c.requires.to at c.frame_lines-begins_by.ensures.ends) in
    rw (returns-clause-from c, c.needed_tiles-needed.ensures.to, line) at c.ended_from.ensures
