use Rattle.fill_state.specs.Tiles.{is_in}
use Rattle.fill_state.proofs.OpenTiles.{none_open}
use Rattle.fill_state.proofs.tiles.TileSet.is_complete.Goals as goal

pub returns : goal.returns
returns c = none_open c.args.count (is_in c.args.self.now) c.next.result c.is_none.result c.next.ensures c.is_none.ensures
