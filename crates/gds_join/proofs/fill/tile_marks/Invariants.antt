-- The marks so far are those of the first tiles.
use Rattle.fill_state.specs.Filling.{is_filled}
use Rattle.gds_join.proofs.Marked.{AreFirst}
use Rattle.gds_join.proofs.fill.tile_marks.Given as goal

abbrev pub invariant-loop-tile : goal.invariant-loop-tile
invariant-loop-tile l = AreFirst l.filled.raster (is_filled l.filled) l.marks.items l.tile
