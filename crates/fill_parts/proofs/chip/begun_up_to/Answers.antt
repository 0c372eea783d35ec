use Rattle.fill_parts.proofs.Chipping.{down_from, next_line, row_fits}
use Rattle.fill_parts.proofs.chip.begun_up_to.Goals as goal

pub overflow_add-last : goal.overflow_add-last
overflow_add-last c = row_fits c.args.places c.args.last c.requires.places c.requires.last

pub returns : goal.returns
returns c =
    down_from c.args.places c.args.last c.bands_begun.result c.min.result c.saturating_sub.result c.args.line
    (rw (next_line c.args.line c.requires.line) at c.bands_begun.ensures) c.min.ensures c.saturating_sub.ensures
