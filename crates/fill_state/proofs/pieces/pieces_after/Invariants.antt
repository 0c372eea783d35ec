-- The pieces of the tiles so far.
use Rattle.std.proofs.Common.{◌≤◌}
use Rattle.fill_state.specs.Layers.{in_layer}
use Rattle.fill_raster.specs.Lattice.{tiles}
use Rattle.fill_core.specs.Machine.{metal_after}
use Rattle.fill_state.specs.Pieces.{AreFirstPieces}
use Rattle.fill_state.proofs.pieces.pieces_after.Given as goal

abbrev pub invariant-loop-tile : goal.invariant-loop-tile
invariant-loop-tile l = record {
  to : l.tile ≤ tiles l.raster;
  are : AreFirstPieces l.raster l.distance (metal_after l.edit (in_layer l.was)) l.tile l.after.items;
}
