use Rattle.fill_state.proofs.Making.{of_tile}
use Rattle.fill_state.proofs.filled.Filled.marks.Goals as goal

pub returns : goal.returns
returns c =
    let of = of_tile (record { raster = c.self.inside.raster; marks = c.self.inside.tiles.items }) c.args.self.now c.args.tile c.index.result.now c.self.invariant.filling c.self.view_is c.requires c.index.ensures in
    record { tile = of.tile_is; marked = of.marked }
