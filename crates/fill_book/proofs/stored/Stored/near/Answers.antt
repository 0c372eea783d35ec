use Rattle.std.proofs.Common.{pos}
use Rattle.fill_state.specs.Layers.{in_layer}
use Rattle.fill_region.specs.Runs.{holds}
use Rattle.fill_job.specs.Plans.{plan_of}
use Rattle.fill_book.specs.Keeping.{stored_layers}
use Rattle.fill_state.proofs.HaloMetal.{piece_at}
use Rattle.fill_book.proofs.Answering.{near_pieces}
use Rattle.fill_book.proofs.stored.Stored.near.Goals as goal

pub returns : goal.returns
returns c =
    let s = c.args.self.now in let plan = plan_of c.args._rules.now in let fits = c.requires.fits in let t = c.args.tile in
    let metal = piece_at plan.raster plan.spacing (in_layer s.drawn.metal) s.pieces.items t c.index.result.now c.index.result.now fits.pieces c.requires.tile c.index.ensures in
    let fill = piece_at plan.raster plan.fill_spacing (holds s.drawn.existing) s.existing_pieces.items t c.index-2.result.now c.index-2.result.now fits.existing_pieces c.requires.tile c.index-2.ensures in
    let keep = piece_at plan.raster (pos 0) (in_layer s.keep) s.keep_pieces.items t c.index-3.result.now c.index-3.result.now fits.keep_pieces c.requires.tile c.index-3.ensures in
    rw (c.in_ok-share.ensures, c.in_ok-share-2.ensures, c.in_ok-share-3.ensures) (near_pieces plan (stored_layers s) t c.index.result.now c.index-2.result.now c.index-3.result.now metal fill keep)
