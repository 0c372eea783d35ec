use Rattle.gds_cells.proofs.Stepping.{few_steps, row_below}
use Rattle.gds_cells.proofs.link.Link.single.Goals as goal

pub stepped-requires-2-clause-rows : goal.stepped-requires-2-clause-rows
stepped-requires-2-clause-rows c =
    let l = c.args.self.now in
    few_steps _ l.rows l.row_step.y (row_below c.args.index l.columns l.rows l.grid.some_columns c.requires) l.grid.rows_y
