use Rattle.fill_book.proofs.running.move_out.Goals as goal

pub move_rows-requires-clause-places : goal.move_rows-requires-clause-places
move_rows-requires-clause-places c = rw c.raster.ensures c.requires.on

pub move_rows-requires-clause-stays : goal.move_rows-requires-clause-stays
move_rows-requires-clause-stays c = rw c.raster.ensures c.requires.stays

pub returns-clause-total : goal.returns-clause-total
returns-clause-total c = rw c.raster.ensures at c.move_rows.ensures.total
