use Rattle.fill_state.proofs.TileWords.{tile_past, tile_read}
use Rattle.fill_state.proofs.tiles.TileSet.has.Goals as goal

pub returns-then-tile-self : goal.returns-then-tile-self
returns-then-tile-self c = tile_read c.self.inside.count c.self.inside.words.items c.args.self.now c.args.tile c.index.result.now c.self.view_is c.if-tile-self.true c.self.invariant c.index.ensures

pub returns-else-tile-self : goal.returns-else-tile-self
returns-else-tile-self c = tile_past c.self.inside.count c.self.inside.words.items c.args.self.now c.args.tile c.self.view_is c.if-tile-self.false
