use Rattle.fill_state.proofs.TileWords.{tile_below, tile_put, word_below}
use Rattle.fill_state.proofs.tiles.TileSet.put.Goals as goal

pub index_mut-requires : goal.index_mut-requires
index_mut-requires c =
    rw c.self.inside.words.ok.0 (word_below c.args.tile c.self.inside.count _ (tile_below c.self.inside.count c.self.inside.words.items c.args.self.now c.args.tile c.self.view_is c.requires) c.self.invariant)

pub returns-clause-tiles : goal.returns-clause-tiles
returns-clause-tiles c = tile_put c.self.inside.count c.self.inside.words.items c.args.self.now c.args.tile c.index_mut.result.now c.self.view_is c.requires c.self.invariant c.index_mut.ensures.value
