use Rattle.std.proofs.Common.{ℤ, false}
use Rattle.fill_raster.specs.Lattice.{tiles}
use Rattle.fill_state.proofs.HaloMetal.{all_tiles, next_tile, pieces_more}
use Rattle.fill_state.proofs.pieces.no_pieces.Goals as goal

pub loop-tile-preserved : goal.loop-tile-preserved
loop-tile-preserved c =
    let h = c.args.halos.now in
    record {
      to = next_tile c.loop-tile._tile (tiles h.raster) c.tiles-tile-end.result c.loop-tile-test.true c.tiles-tile-end.ensures;
      are = pieces_more h.raster h.distance (λ x y. false) c.loop-tile._tile c.loop-tile.pieces.items c.push.new.self.items c.in_ok-share.field-0 c.in_ok-push.ensures.items c.loop-tile.invariant.are (λ x y. rw c.in_ok-share.ensures (c.requires x y));
    }

pub returns : goal.returns
returns c =
    let h = c.args.halos.now in let inv = c.loop-tile.invariant in
    all_tiles h.raster h.distance (λ x y. false) c.loop-tile._tile (tiles h.raster) c.tiles-tile-end.result c.loop-tile.pieces.items inv.to c.loop-tile-test.false c.tiles-tile-end.ensures inv.are
