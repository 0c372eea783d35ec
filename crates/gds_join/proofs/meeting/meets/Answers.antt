use Rattle.std.proofs.Common.{◌≡◌, sym, ap, subst, ◌∙◌, pos, ◌+ℤ◌, true, false, ◌&&◌, rules}
use Rattle.std.proofs.lemmas.Bool.{and_from, and_parts}
use Rattle.fill_base.specs.Counts.{is_between}
use Rattle.fill_base.proofs.Signed.{read, read_is, is_lt, not_lt}
use Rattle.fill_raster.specs.Axes.{first, is_on, past}
use Rattle.fill_raster.specs.Lattice.{IsLattice, Lattice, in_raster}
use Rattle.fill_raster.proofs.Ranges.{first_past, on_range, past_bounded}
use Rattle.fill_raster.proofs.Reading.{first_read, past_read}
use Rattle.fill_raster.proofs.Searching.{here, one_on, step_fits}
use Rattle.fill_state.specs.Filling.{is_filled}
use Rattle.gds_out.proofs.RowTurns.{next_to}
use Rattle.gds_join.specs.Fills.{filled_in}
use Rattle.gds_join.proofs.NoneBetween.{none_begins, none_more, none_over}
use Rattle.gds_join.proofs.Telling.{first_holds}
use Rattle.gds_join.proofs.meeting.meets.Goals as goal

pub loop-j-init : goal.loop-j-init
loop-j-init c =
    let r = c.args.fill.now.raster in
    let found : IsLattice c.raster-raster.result = search rules in
    let is : IsLattice r = subst IsLattice c.raster-raster.ensures found in
    let s : read c.rows-rows.result.start ≡ first r.up = ap read (c.rows-rows.ensures.first ∙ ap (λ (q : Lattice). first q.up) c.raster-raster.ensures) ∙ first_read r.up is.up in
    rw s (record { from = here (first r.up); to = first_past r.up; none = λ i j a b. none_begins (λ m. is_filled c.args.fill.now i m && filled_in c.args.parts.now i m) (first r.up) j b })

pub loop-j-preserved : goal.loop-j-preserved
loop-j-preserved c =
    let r = c.args.fill.now.raster in
    let found : IsLattice c.raster-raster.result = search rules in
    let is : IsLattice r = subst IsLattice c.raster-raster.ensures found in
    let left : read c.columns-columns.result.start ≡ first r.across = ap read (c.columns-columns.ensures.first ∙ ap (λ (q : Lattice). first q.across) c.raster-raster.ensures) ∙ first_read r.across is.across in
    let right : read c.columns-columns.result.end ≡ past r.across = ap read (c.columns-columns.ensures.past ∙ ap (λ (q : Lattice). past q.across) c.raster-raster.ensures) ∙ past_read r.across is.across in
    let p : read c.rows-rows.result.end ≡ past r.up = ap read (c.rows-rows.ensures.past ∙ ap (λ (q : Lattice). past q.up) c.raster-raster.ensures) ∙ past_read r.up is.up in
    let lt = is_lt c.loop-j.j (past r.up) (rw (c.loop-j.j-is, p) at c.loop-j-test.true) in
    let inv = rw c.loop-j.j-is at c.loop-j.invariant in
    let next : read (c.loop-j.j +ℤ pos 1) ≡ c.loop-j.j +ℤ pos 1 = read_is _ (step_fits c.loop-j.j (past r.up) (search rules) lt (past_bounded r.up is.up).most) in
    let this = rw (c.loop-j.j-is, left, right) at (c.meets_at.ensures.no c.if-meets_at.false) in
    rw (c.loop-j.j-is, next) (record {
      from = one_on _ _ inv.from;
      to = next_to c.loop-j.j (past r.up) lt;
      none = λ i j a b. none_more (λ m. is_filled c.args.fill.now i m && filled_in c.args.parts.now i m) (first r.up) c.loop-j.j (λ m h. inv.none i m a h) (this i a) j b;
    })

pub returns-clause-no : goal.returns-clause-no
returns-clause-no c = λ e m.
    let r = c.args.fill.now.raster in
    let found : IsLattice c.raster-raster.result = search rules in
    let is : IsLattice r = subst IsLattice c.raster-raster.ensures found in
    let p : read c.rows-rows.result.end ≡ past r.up = ap read (c.rows-rows.ensures.past ∙ ap (λ (q : Lattice). past q.up) c.raster-raster.ensures) ∙ past_read r.up is.up in
    let over = not_lt c.loop-j.j (past r.up) (rw (c.loop-j.j-is, p) at c.loop-j-test.false) in
    let inv = rw c.loop-j.j-is at c.loop-j.invariant in
    let on = and_parts (is_on r.across m.i) (is_on r.up m.j) (first_holds (in_raster r m.i m.j) _ m.first) in
    let column : is_between (first r.across) (past r.across) m.i ≡ true = sym (on_range r.across m.i is.across.step_is.least) ∙ on.0 in
    let row : is_between (first r.up) (past r.up) m.j ≡ true = sym (on_range r.up m.j is.up.step_is.least) ∙ on.1 in
    let none = none_over (λ j. is_filled c.args.fill.now m.i j && filled_in c.args.parts.now m.i j) (first r.up) (past r.up) c.loop-j.j inv.to over (λ j h. inv.none m.i j column h) m.j row in
    absurd (let f : true ≡ false = sym (and_from _ _ m.first m.second) ∙ none in cc f)
