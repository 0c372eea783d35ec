use Rattle.std.proofs.Common.{◌≡◌, refl, ◌∙◌, pos, ◌+ℤ◌, ◌&&◌, ℤ, rules, FitsSigned, w64}
use Rattle.std.proofs.lemmas.Bool.{and_from}
use Rattle.fill_base.specs.Counts.{is_between}
use Rattle.fill_base.proofs.Between.{is_between_true}
use Rattle.fill_base.proofs.Signed.{read, read_is, is_lt}
use Rattle.fill_raster.specs.Marks.{is_marked}
use Rattle.fill_state.specs.Filling.{is_filled}
use Rattle.fill_job.proofs.Marking.{next_within, first_within, next_fits, not_lt}
use Rattle.fill_state.proofs.FillRows.{rows_begin, rows_more, rows_end}
use Rattle.fill_state.proofs.filled.Filled.fill_rows.Goals as goal

pub loop-j-init : goal.loop-j-init
loop-j-init c =
    let p = c.args.places.now in
    let at = first_within p.rows.start p.rows.end in
    let bottom : FitsSigned w64 p.rows.start = search rules in
    rw (read_is p.rows.start bottom) (record {
      from = at.0;
      to = at.1;
      raster = refl;
      filled = λ k m. rows_begin (is_filled c.args.self.now) (λ k m. is_between p.columns.start p.columns.end k && is_marked c.args.marks.now k m) p.rows.start k m;
    })

pub fill_row-requires-clause-tile : goal.fill_row-requires-clause-tile
fill_row-requires-clause-tile c = rw c.loop-j.invariant.raster c.requires.tile

pub fill_row-requires-clause-places : goal.fill_row-requires-clause-places
fill_row-requires-clause-places c =
    let p = c.args.places.now in
    let top : FitsSigned w64 p.rows.end = search rules in
    let from = rw c.loop-j.j-is at c.loop-j.invariant.from in
    let lt = is_lt c.loop-j.j p.rows.end (rw (c.loop-j.j-is, read_is p.rows.end top) at c.loop-j-test.true) in
    rw (c.loop-j.j-is, c.loop-j.invariant.raster)
    (λ i inside. c.requires.places i c.loop-j.j (and_from _ _ inside (is_between_true p.rows.start p.rows.end c.loop-j.j from lt)))

pub loop-j-preserved : goal.loop-j-preserved
loop-j-preserved c =
    let p = c.args.places.now in
    let bottom : FitsSigned w64 p.rows.start = search rules in
    let top : FitsSigned w64 p.rows.end = search rules in
    let j = c.loop-j.j in
    let x = λ (k m : ℤ). is_between p.columns.start p.columns.end k && is_marked c.args.marks.now k m in
    let inv = rw c.loop-j.j-is at c.loop-j.invariant in
    let lt = is_lt j p.rows.end (rw (c.loop-j.j-is, read_is p.rows.end top) at c.loop-j-test.true) in
    let step = next_within p.rows.start p.rows.end j inv.from lt in
    let next : read (j +ℤ pos 1) ≡ j +ℤ pos 1 = read_is (j +ℤ pos 1) (next_fits p.rows.start p.rows.end j bottom top inv.from lt) in
    rw (c.loop-j.j-is, next) (record {
      from = step.0;
      to = step.1;
      raster = c.fill_row.ensures.raster ∙ inv.raster;
      filled = rows_more (is_filled c.args.self.now) (is_filled c.loop-j.self) (is_filled c.fill_row.new.self) x p.rows.start j inv.from inv.filled (rw c.loop-j.j-is at c.fill_row.ensures.filled);
    })

pub returns : goal.returns
returns c =
    let p = c.args.places.now in
    let top : FitsSigned w64 p.rows.end = search rules in
    let x = λ (k m : ℤ). is_between p.columns.start p.columns.end k && is_marked c.args.marks.now k m in
    let inv = rw c.loop-j.j-is at c.loop-j.invariant in
    let past = not_lt c.loop-j.j p.rows.end (rw (c.loop-j.j-is, read_is p.rows.end top) at c.loop-j-test.false) in
    record { raster = inv.raster; filled = rows_end (is_filled c.args.self.now) (is_filled c.loop-j.self) x p.rows.start p.rows.end c.loop-j.j inv.from inv.to past inv.filled }
