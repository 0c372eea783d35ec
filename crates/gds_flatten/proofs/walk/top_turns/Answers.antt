use Rattle.std.proofs.Common.{◌∙◌, map}
use Rattle.gds_cells.specs.Copies.{carry_copy}
use Rattle.gds_cells.specs.Placements.{still}
use Rattle.gds_cells.specs.steps.Walks.{top_copies}
use Rattle.gds_flatten.proofs.Chained.{nothing_more, still_carried}
use Rattle.gds_flatten.proofs.walk.top_turns.Goals as goal

pub returns-clause-copies : goal.returns-clause-copies
returns-clause-copies c = λ cells.
    c.turns_of.ensures.copies cells ∙ rw c.shift-still.ensures (nothing_more (map (carry_copy still) (top_copies cells c.args.top)) ∙ still_carried (top_copies cells c.args.top))
