use Rattle.std.proofs.Common.{◌≡◌, ◌∙◌, ap, arith}
use Rattle.fill_base.proofs.Areas.{read_x1, read_x2, read_y1, read_y2}
use Rattle.fill_base.proofs.Signed.{read}
use Rattle.fill_region.proofs.Words.{fits_x1, fits_x2, fits_y1, fits_y2}
use Rattle.fill_size.proofs.Ranges.{spacing_read}
use Rattle.fill_state.proofs.Halving.{around_all, around_fit, least_of, most_of, none_around, one_around}
use Rattle.fill_state.proofs.pieces.Halos.around.Goals as goal

pub loop-tile-init : goal.loop-tile-init
loop-tile-init c =
    let halo = c.halo-first.result in
    record {
      are = none_around c.args.self.now.raster c.args.self.now.distance c.args.from halo _ _ _ _ (ap read c.x1-left.ensures ∙ read_x1 halo) (ap read c.y1-bottom.ensures ∙ read_y1 halo) (ap read c.x2-right.ensures ∙ read_x2 halo) (ap read c.y2-top.ensures ∙ read_y2 halo);
      to = omega (arith, c.requires.some);
    }

pub loop-tile-preserved : goal.loop-tile-preserved
loop-tile-preserved c =
    let r = c.args.self.now.raster in let d = c.args.self.now.distance in let halo = c.halo-halo.result in
    let e = rw (spacing_read d c.requires.distance) at c.halo-halo.ensures in
    let are = c.loop-tile.invariant.are in
    let fit = around_fit r d c.args.from c.loop-tile.tile _ _ _ _ are in
    record {
      are = one_around r d c.args.from c.loop-tile.tile halo _ _ _ _ _ _ _ _ e.left e.bottom e.right e.top
          (least_of c.min-left.result _ c.x1.result halo.x1 c.min-left.ensures.value c.x1.ensures fit.left_fits (fits_x1 halo))
          (least_of c.min-bottom.result _ c.y1.result halo.y1 c.min-bottom.ensures.value c.y1.ensures fit.bottom_fits (fits_y1 halo))
          (most_of c.max-right.result _ c.x2.result halo.x2 c.max-right.ensures.value c.x2.ensures fit.right_fits (fits_x2 halo))
          (most_of c.max-top.result _ c.y2.result halo.y2 c.max-top.ensures.value c.y2.ensures fit.top_fits (fits_y2 halo))
          are;
      to = omega (arith, c.loop-tile-test.true);
    }

pub returns : goal.returns
returns c =
    let r = c.args.self.now.raster in let d = c.args.self.now.distance in
    let all : c.loop-tile.tile ≡ c.args.to = omega (arith, c.loop-tile-test.false, c.loop-tile.invariant.to) in
    let edges = c.from_edges.ensures in
    around_all r d c.args.from c.loop-tile.tile c.args.to c.from_edges.result _ _ _ _ edges.0 edges.1 edges.2 edges.3 all c.loop-tile.invariant.are
