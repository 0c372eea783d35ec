use Rattle.fill_stacks.specs.Runs.{run}
use Rattle.gds_out.proofs.RowTurns.{part_of, piece_more}
use Rattle.gds_out.proofs.rows.push_pieces.Goals as goal

pub overflow_add-start : goal.overflow_add-start
overflow_add-start c =
    let p = part_of c.args.start c.args.count c.loop-k.k c.requires.low c.requires.high (rw c.div_ceil-k-end.ensures at c.loop-k-test.true) in
    rw (c.from.ensures, p.begins, p.offset) p.fits

pub loop-k-preserved : goal.loop-k-preserved
loop-k-preserved c =
    let p = part_of c.args.start c.args.count c.loop-k.k c.requires.low c.requires.high (rw c.div_ceil-k-end.ensures at c.loop-k-test.true) in
    rw p.begins (piece_more (run c.args.start c.args.count) c.loop-k.k _ _ _ (rw p.begins at c.loop-k.invariant)
    (rw (c.from.ensures, p.begins, p.offset, p.at, c.min.ensures) at c.in_ok-push.ensures.items))
