use Rattle.fill_state.specs.Layers.{in_layer}
use Rattle.fill_base.proofs.Signed.{read}
use Rattle.fill_size.proofs.Ranges.{spacing_read}
use Rattle.fill_raster.specs.Lattice.{tiles}
use Rattle.fill_core.specs.Machine.{metal_after}
use Rattle.fill_state.proofs.HaloMetal.{all_tiles, below, next_tile, piece_at, pieces_more}
use Rattle.fill_state.proofs.pieces.pieces_after.Goals as goal

pub loop-tile-preserved : goal.loop-tile-preserved
loop-tile-preserved c =
    let r = c.args.raster.now in
    record {
      to = next_tile c.loop-tile.tile (tiles r) c.tiles-tile-end.result c.loop-tile-test.true c.tiles-tile-end.ensures;
      are = pieces_more r (read c.args.distance) (metal_after c.args.edit (in_layer c.args.was.now)) c.loop-tile.tile c.loop-tile.after.items c.push.new.self.items c.in_ok-piece_after.field-0 c.in_ok-push.ensures.items c.loop-tile.invariant.are c.in_ok-piece_after.ensures;
    }

pub returns : goal.returns
returns c =
    let r = c.args.raster.now in
    let inv = rw (spacing_read c.args.distance c.requires.distance) at c.loop-tile.invariant in
    all_tiles r c.args.distance (metal_after c.args.edit (in_layer c.args.was.now)) c.loop-tile.tile (tiles r) c.tiles-tile-end.result c.loop-tile.after.items inv.to c.loop-tile-test.false c.tiles-tile-end.ensures inv.are

pub piece_after-requires-clause-piece : goal.piece_after-requires-clause-piece
piece_after-requires-clause-piece c =
    let r = c.args.raster.now in let d = c.args.distance in
    rw (spacing_read d c.requires.distance) (piece_at r d (in_layer c.args.was.now) c.args.pieces.now c.loop-tile.tile c.index-pieces-tile.result c.index-pieces-tile.result c.requires.pieces (below c.loop-tile.tile c.tiles-tile-end.result (tiles r) c.loop-tile-test.true c.tiles-tile-end.ensures) c.index-pieces-tile.is)
