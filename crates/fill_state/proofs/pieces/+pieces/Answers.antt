use Rattle.std.proofs.Common.{arith}
use Rattle.std.proofs.lemmas.Result.{IfOk-at_ok}
use Rattle.fill_region.specs.Squares.{covered}
use Rattle.fill_state.proofs.Halving.{both_halves, pieces_within}
use Rattle.fill_state.proofs.pieces.+pieces.Goals as goal

pub returns : goal.returns
returns g t c =
    let r = c.args.halos.now.raster in let d = c.args.halos.now.distance in
    let middle = c.between-middle.result in
    let one = pieces_within r d c.args.runs.items c.in_ok-lower.lower.items c.around.result c.args.from middle c.in_ok-pieces.pieces.items c.around.ensures (rw c.deref.ensures.value at c.in_ok-lower.ensures.squares) (IfOk-at_ok _ c.in_ok-pieces.was c.join-first.ensures.first) in
    let two = pieces_within r d c.args.runs.items c.in_ok-upper.upper.items c.around-2.result middle c.args.to c.in_ok-others.others.items c.around-2.ensures (rw c.deref-2.ensures.value at c.in_ok-upper.ensures.squares) (IfOk-at_ok _ c.in_ok-others.was c.join-first.ensures.second) in
    rw (c.in_ok-append.ensures.items) (both_halves r d (covered c.args.runs.items) c.args.from middle c.args.to c.in_ok-pieces.pieces.items c.in_ok-others.others.items (omega (arith, c.between-middle.ensures.0)) (omega (arith, c.between-middle.ensures.1)) one two)
