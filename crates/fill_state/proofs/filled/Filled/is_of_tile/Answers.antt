use Rattle.std.proofs.Common.{sym}
use Rattle.fill_state.proofs.LastTile.{no_tile}
use Rattle.fill_state.proofs.filled.Filled.is_of_tile.Goals as goal

pub returns-in-None : goal.returns-in-None
returns-in-None c =
    sym (no_tile (record { raster = c.self.inside.raster; marks = c.self.inside.tiles.items }) c.args.self.now c.deref.result.now c.args.tile c.args.place.i c.args.place.j
    c.self.invariant.filling c.self.view_is c.deref.ensures.value c.in-None.ensures.lookup.3)
