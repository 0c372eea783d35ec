use Rattle.std.proofs.Common.{◌∙◌, ap}
use Rattle.fill_base.proofs.Areas.{read_x1}
use Rattle.fill_base.proofs.Signed.{read, read_is, not_lt}
use Rattle.fill_region.proofs.Searching.{place_reached}
use Rattle.fill_region.proofs.stacks.next_place.Goals as goal

pub returns-else-x1-column : goal.returns-else-x1-column
returns-else-x1-column c = place_reached c.args.row.now c.args.column c.row.k c.index-row-k.result c.requires.rising c.row-test.true c.index-row-k.is (rw (read_is c.args.column c.ranges.column) at c.row.invariant.1)
    (not_lt c.index-row-k.result.x1 c.args.column (rw (ap read c.x1.ensures ∙ read_x1 c.index-row-k.result, read_is c.args.column c.ranges.column) at c.if-x1-column.false))
