use Rattle.std.proofs.Common.{◌≡◌, ◌∙◌, ap, refl, rules}
use Rattle.fill_base.proofs.Signed.{read, read_is, is_lt, not_lt, le_trans}
use Rattle.fill_raster.specs.Axes.{first, past}
use Rattle.fill_raster.specs.Lattice.{IsLattice}
use Rattle.fill_raster.proofs.Ranges.{first_past}
use Rattle.fill_raster.proofs.Reading.{first_read, past_read}
use Rattle.fill_raster.proofs.Searching.{here}
use Rattle.gds_out.specs.Places.{marked_by}
use Rattle.gds_out.proofs.Along.{shorter}
use Rattle.gds_out.proofs.RowTurns.{row_more, row_done, turn_of, Turned}
use Rattle.gds_out.proofs.rows.pieces_of_row.Goals.{After-next_column-end}
use Rattle.gds_out.proofs.rows.pieces_of_row.Goals as goal

pub loop-i-init : goal.loop-i-init
loop-i-init c =
    let r = c.args.raster in
    let is : IsLattice r = search rules in
    let s : read c.columns-columns.result.start ≡ first r.across = ap read c.columns-columns.ensures.first ∙ first_read r.across is.across in
    rw s (record { from = here (first r.across); to = first_past r.across; rest = rw c.new-list.ensures.items refl })

turn : (c : After-next_column-end) → Turned c.args.raster (marked_by c.args.marks.now) (read c.args.j) c.loop-i.i c.next_column-start.result c.next_column-end.result
turn c =
    let r = c.args.raster in
    let is : IsLattice r = search rules in
    let p : read c.columns-columns.result.end ≡ past r.across = ap read c.columns-columns.ensures.past ∙ past_read r.across is.across in
    let sr : read c.next_column-start.result ≡ c.next_column-start.result = read_is _ (record { sfits = c.next_column-start.type_inv }) in
    let lt = is_lt c.loop-i.i (past r.across) (rw (c.loop-i.i-is, p) at c.loop-i-test.true) in
    turn_of r (marked_by c.args.marks.now) (read c.args.j) c.loop-i.i c.next_column-start.result c.next_column-end.result is lt (rw c.loop-i.i-is at c.loop-i.invariant.from)
    (rw c.loop-i.i-is at c.next_column-start.ensures) (rw sr at c.next_column-end.ensures)

pub overflow_sub-end : goal.overflow_sub-end
overflow_sub-end c = let l = (turn ((goal.at.overflow_sub-end c).After-next_column-end)).length in rw (l.start, l.end) l.fits

pub overflow_cast-end : goal.overflow_cast-end
overflow_cast-end c = let l = (turn ((goal.at.overflow_cast-end c).After-next_column-end)).length in rw (l.start, l.end, l.difference) (search rules)

pub push_pieces-requires-clause-low : goal.push_pieces-requires-clause-low
push_pieces-requires-clause-low c =
    let l = (turn ((goal.at.push_pieces-requires-clause-low c).After-next_column-end)).length in rw l.start l.low

pub push_pieces-requires-clause-high : goal.push_pieces-requires-clause-high
push_pieces-requires-clause-high c = let l = (turn ((goal.at.push_pieces-requires-clause-high c).After-next_column-end)).length in rw (l.start, l.end, l.difference) l.high

pub loop-i-smaller : goal.loop-i-smaller
loop-i-smaller c = let t = turn ((goal.at.loop-i-smaller c).After-next_column-end) in rw (c.loop-i.i-is, t.length.end) (shorter _ _ _ t.on t.turn.to)

pub loop-i-preserved : goal.loop-i-preserved
loop-i-preserved c =
    let r = c.args.raster in
    let t = turn ((goal.at.loop-i-preserved c).After-next_column-end) in
    let inv = rw c.loop-i.i-is at c.loop-i.invariant in
    rw t.length.end (record {
      from = le_trans _ _ _ t.low t.turn.then_from;
      to = t.turn.to;
      rest = row_more (λ k. marked_by c.args.marks.now k (read c.args.j)) c.loop-i.i c.next_column-start.result c.next_column-end.result (past r.across) _ _ _ t.turn
          (rw (t.length.start, t.length.end, t.length.difference) at c.in_ok-push_pieces.ensures) inv.rest;
    })

pub returns : goal.returns
returns c =
    let r = c.args.raster in
    let is : IsLattice r = search rules in
    let p : read c.columns-columns.result.end ≡ past r.across = ap read c.columns-columns.ensures.past ∙ past_read r.across is.across in
    let jr : read c.args.j ≡ c.args.j = read_is _ c.ranges.j in
    let over = not_lt c.loop-i.i (past r.across) (rw (c.loop-i.i-is, p) at c.loop-i-test.false) in
    let inv = rw (c.loop-i.i-is, jr) at c.loop-i.invariant in
    row_done (λ k. marked_by c.args.marks.now k c.args.j) c.loop-i.i (past r.across) _ _ inv.to over inv.rest
