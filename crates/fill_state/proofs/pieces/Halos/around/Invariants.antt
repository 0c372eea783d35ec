-- The edges are those around the halos of the tiles so far.
use Rattle.std.proofs.Common.{◌≤◌}
use Rattle.fill_state.proofs.Halving.{AreAround}
use Rattle.fill_state.proofs.pieces.Halos.around.Given as goal

abbrev pub invariant-loop-tile : goal.invariant-loop-tile
invariant-loop-tile l = record {
  are : AreAround l.self.raster l.self.distance l.from l.tile l.left l.bottom l.right l.top;
  to : l.tile ≤ l.to;
}
