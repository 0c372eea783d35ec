-- The pieces of the tiles so far.
use Rattle.std.proofs.Common.{◌≤◌, false}
use Rattle.fill_raster.specs.Lattice.{tiles}
use Rattle.fill_state.specs.Pieces.{AreFirstPieces}
use Rattle.fill_state.proofs.pieces.no_pieces.Given as goal

abbrev pub invariant-loop-tile : goal.invariant-loop-tile
invariant-loop-tile l = record {
  to : l._tile ≤ tiles l.halos.raster;
  are : AreFirstPieces l.halos.raster l.halos.distance (λ x y. false) l._tile l.pieces.items;
}
