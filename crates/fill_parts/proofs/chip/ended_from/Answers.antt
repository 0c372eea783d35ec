use Rattle.fill_parts.proofs.Chipping.{last_few, line_before, row_fits, up_from}
use Rattle.fill_parts.proofs.chip.ended_from.Goals as goal

pub overflow_add-last : goal.overflow_add-last
overflow_add-last c =
    row_fits c.args.places c.max-last.result c.requires.places
    (last_few c.max-last.result c.args.needed c.args.first c.bands_ended-ended.result _ (rw (c.max.ensures, c.saturating_sub.ensures) at c.max-last.ensures) c.requires.needed c.requires.first c.bands_ended-ended.ensures.few)

pub returns : goal.returns
returns c =
    up_from c.args.places c.args.needed c.args.first c.bands_ended-ended.result c.max-last.result c.min.result c.args.line (rw (line_before c.args.line c.requires.line) at c.bands_ended-ended.ensures)
    (rw (c.max.ensures, c.saturating_sub.ensures) at c.max-last.ensures) (rw c.bands.ensures at c.min.ensures)
