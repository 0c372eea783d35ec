use Rattle.std.proofs.Common.{◌≡◌, ◌+◌, arith}
use Rattle.fill_region.specs.Squares.{covered}
use Rattle.fill_state.proofs.Halving.{both_halves, one_piece, pieces_within}
use Rattle.fill_state.proofs.pieces.+alone.Goals as goal

pub returns-then-to-from-eq1 : goal.returns-then-to-from-eq1
returns-then-to-from-eq1 t c =
    let one : c.args.to ≡ c.args.from + 1 = omega (arith, c.if-to-from-eq1.true, c.requires.some) in
    rw (c.in_ok-push.ensures.items, c.new-pieces.ensures.items) (one_piece c.args.halos.now.raster c.args.halos.now.distance (covered c.args.runs.items) c.args.from c.args.to c.in_ok-piece.field-0 one (rw c.deref.ensures.value at c.in_ok-piece.ensures))

pub returns : goal.returns
returns t c =
    let r = c.args.halos.now.raster in let d = c.args.halos.now.distance in
    let middle = c.between-middle.result in
    let one = pieces_within r d c.args.runs.items c.in_ok-lower.lower.items c.around.result c.args.from middle c.in_ok-pieces.pieces.items c.around.ensures (rw c.deref-2.ensures.value at c.in_ok-lower.ensures.squares) c.in_ok-pieces.ensures in
    let two = pieces_within r d c.args.runs.items c.in_ok-upper.upper.items c.around-2.result middle c.args.to c.in_ok-others.others.items c.around-2.ensures (rw c.deref-3.ensures.value at c.in_ok-upper.ensures.squares) c.in_ok-others.ensures in
    rw (c.in_ok-append.ensures.items) (both_halves r d (covered c.args.runs.items) c.args.from middle c.args.to c.in_ok-pieces.pieces.items c.in_ok-others.others.items (omega (arith, c.between-middle.ensures.0)) (omega (arith, c.between-middle.ensures.1)) one two)
