-- The tiles so far have marks, and no place of theirs is marked.
use Rattle.std.proofs.Common.{◌≤◌}
use Rattle.fill_raster.specs.Lattice.{tiles}
use Rattle.fill_state.specs.steps.Empty.{AreNone}
use Rattle.fill_state.proofs.Making.{with_marks}
use Rattle.fill_state.proofs.filled.Filled.none.Given as goal

abbrev pub invariant-loop-tile : goal.invariant-loop-tile
invariant-loop-tile l = record {
  to : l.tile ≤ tiles l.raster;
  none : AreNone (with_marks l.raster l.tiles.items) l.tile;
}
