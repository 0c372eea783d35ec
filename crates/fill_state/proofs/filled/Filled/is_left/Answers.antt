use Rattle.std.proofs.Common.{◌≡◌, ap}
use Rattle.fill_raster.specs.Marks.{is_marked}
use Rattle.fill_state.specs.Filling.{in_places, is_filled}
use Rattle.fill_state.proofs.LastTile.{left_is}
use Rattle.fill_state.proofs.Placing.{given_has}
use Rattle.fill_state.proofs.filled.Filled.is_left.Goals as goal

pub returns-then-has-clause-left : goal.returns-then-has-clause-left
returns-then-has-clause-left c =
    let f = c.args.self.now in let i = c.args.place.i in let j = c.args.place.j in
    let r_is : c.self.inside.raster ≡ c.args.self.now.raster = ap (λ f. f.raster) c.self.view_is in
    left_is (is_filled f i j) (is_marked c.index.result.now i j) c.has.result c.has-then-has.result (in_places c.args.out.now i j)
    (given_has (record { raster = c.self.inside.raster; marks = c.self.inside.tiles.items }) f i j c.tile_after.result c.index.result.now c.self.invariant.filling c.self.view_is c.requires (rw r_is c.tile_after.ensures.tile) c.index.ensures)
    c.has.ensures c.if-has.true c.has-then-has.ensures
