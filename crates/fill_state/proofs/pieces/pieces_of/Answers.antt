use Rattle.std.proofs.lemmas.Result.{IfOk-weaker}
use Rattle.fill_region.specs.Runs.{holds}
use Rattle.fill_region.specs.Squares.{covered}
use Rattle.fill_raster.specs.Lattice.{tiles}
use Rattle.fill_size.proofs.Ranges.{spacing_read}
use Rattle.fill_state.proofs.Halving.{all_pieces, pieces_within}
use Rattle.fill_state.proofs.pieces.pieces_of.Goals as goal

pub returns : goal.returns
returns g c =
    let r = c.args.raster in let d = c.args.distance in
    let found = rw (spacing_read d c.requires, c.tiles-tiles.ensures) at c.pieces_between.ensures in
    let around = rw (spacing_read d c.requires, c.tiles-tiles.ensures) at c.around.ensures in
    IfOk-weaker c.pieces_between.result _ _ (λ v are.
    let whole = pieces_within r d c.runs.result.now c.in_ok-runs.runs.items c.around.result 0 (tiles r) v.items around c.in_ok-runs.ensures.squares are in
    let all = all_pieces r d (covered c.runs.result.now) (holds c.args.region.now) (tiles r) v.items c.runs.ensures.cover whole in
    record { count = all.0; each = all.1 }) found
