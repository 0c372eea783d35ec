use Rattle.std.proofs.Common.{◌-◌}
use Rattle.fill_parts.proofs.Chipping.{begin_coordinate, coordinate_kept, coordinate_read, end_coordinate, first_row_below, last_row_below, window_rows}
use Rattle.fill_parts.proofs.chip.level_windows.Goals as goal

pub touching-requires-clause-low : goal.touching-requires-clause-low
touching-requires-clause-low c = coordinate_kept _ _ c.band_begin.ensures (begin_coordinate c.args.places c.args.rows.start c.requires.places (first_row_below _ _ _ c.if-rows.false c.requires.rows))

pub touching-requires-clause-high : goal.touching-requires-clause-high
touching-requires-clause-high c = coordinate_kept _ _ c.band_end.ensures (end_coordinate c.args.places (c.args.rows.end - 1) c.requires.places (last_row_below _ _ _ c.if-rows.false c.requires.rows))

pub returns-clause-level : goal.returns-clause-level
returns-clause-level c =
    window_rows c.args.places c.args.windows (record { from = c.args.rows.start; to = c.args.rows.end }) c.touching.result.start c.touching.result.end c.if-rows.false
    (rw (
      c.band_begin.ensures,
      c.band_end.ensures,
      coordinate_read _ (begin_coordinate c.args.places c.args.rows.start c.requires.places (first_row_below _ _ _ c.if-rows.false c.requires.rows)),
      coordinate_read _ (end_coordinate c.args.places (c.args.rows.end - 1) c.requires.places (last_row_below _ _ _ c.if-rows.false c.requires.rows)),
    ) at c.touching.ensures)
