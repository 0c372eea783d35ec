use Rattle.fill_parts.proofs.Chipping.{coordinate_read, line_least, no_tile_row, span_begin, span_end, tile_rows}
use Rattle.fill_parts.proofs.chip.level_tiles.Goals as goal

pub returns-then-rows-clause-level : goal.returns-then-rows-clause-level
returns-then-rows-clause-level c = λ t lt. no_tile_row c.args.places c.args.windows c.args.rows.start c.args.rows.end t c.if-rows.true

pub bands_ended-requires-clause-least : goal.bands_ended-requires-clause-least
bands_ended-requires-clause-least c = line_least c.extent-bottom.result.0 (span_begin c.args.windows _ _ _ c.extent-bottom.ensures)

pub bands_begun-requires-clause-least : goal.bands_begun-requires-clause-least
bands_begun-requires-clause-least c = line_least c.extent-top.result.1 (span_end c.args.windows _ _ _ c.extent-top.ensures)

pub returns-clause-level : goal.returns-clause-level
returns-clause-level c =
    tile_rows c.args.places c.args.windows (record { from = c.args.rows.start; to = c.args.rows.end }) c.bands_ended.result c.bands_begun.result c.if-rows.false
    (rw (coordinate_read _ (span_begin c.args.windows _ _ _ c.extent-bottom.ensures), c.extent-bottom.ensures.begins) at c.bands_ended.ensures)
    (rw (coordinate_read _ (span_end c.args.windows _ _ _ c.extent-top.ensures), c.extent-top.ensures.ends) at c.bands_begun.ensures)
