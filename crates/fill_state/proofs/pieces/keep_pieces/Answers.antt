use Rattle.fill_state.proofs.pieces.keep_pieces.Goals as goal

pub returns : goal.returns
returns g c = rw c.raster.ensures.raster at c.pieces_of.ensures
