use Rattle.std.proofs.Common.{◌≡◌, refl, ap, sym, ◌∙◌, pos, ◌+ℤ◌, rules, FitsSigned, w64}
use Rattle.fill_base.proofs.Between.{is_between_true}
use Rattle.fill_base.proofs.Signed.{read, read_is, is_lt}
use Rattle.fill_raster.specs.Marks.{is_marked}
use Rattle.fill_state.specs.Filling.{is_filled}
use Rattle.fill_job.proofs.Marking.{row_begins, column_marked, column_passed, row_ends, next_within, first_within, next_fits, not_lt}
use Rattle.fill_state.proofs.filled.Filled.fill_row.Goals as goal
use Rattle.fill_state.proofs.filled.Filled.fill_row.Goals.{then-has, else-has}

pub loop-i-init : goal.loop-i-init
loop-i-init c =
    let p = c.args.columns.now in
    let at = first_within p.start p.end in
    let left : FitsSigned w64 p.start = search rules in
    rw (read_is p.start left) (record {
      from = at.0;
      to = at.1;
      raster = refl;
      filled = λ k m. row_begins (is_filled c.args.self.now) (is_marked c.args.marks.now) p.start (read c.args.j) k m;
    })

pub set-requires-clause-tile : goal.set-requires-clause-tile
set-requires-clause-tile c = rw c.loop-i.invariant.raster c.requires.tile

pub set-requires-clause-place : goal.set-requires-clause-place
set-requires-clause-place c =
    let p = c.args.columns.now in
    let right : FitsSigned w64 p.end = search rules in
    let from = rw c.loop-i.i-is at c.loop-i.invariant.from in
    let lt = is_lt c.loop-i.i p.end (rw (c.loop-i.i-is, read_is p.end right) at c.loop-i-test.true) in
    rw (c.loop-i.i-is, read_is c.args.j c.ranges.j, c.loop-i.invariant.raster) (c.requires.places c.loop-i.i (is_between_true p.start p.end c.loop-i.i from lt))

pub loop-i-preserved : goal.loop-i-preserved
loop-i-preserved c =
    let p = c.args.columns.now in
    let left : FitsSigned w64 p.start = search rules in
    let right : FitsSigned w64 p.end = search rules in
    let s = is_marked c.args.marks.now in
    let o = is_filled c.args.self.now in
    let b = is_filled c.loop-i.self in
    let i = c.loop-i.i in let j = read c.args.j in
    let inv = rw c.loop-i.i-is at c.loop-i.invariant in
    let lt = is_lt i p.end (rw (c.loop-i.i-is, read_is p.end right) at c.loop-i-test.true) in
    let step = next_within p.start p.end i inv.from lt in
    let next : read (i +ℤ pos 1) ≡ i +ℤ pos 1 = read_is (i +ℤ pos 1) (next_fits p.start p.end i left right inv.from lt) in
    let has : c.has.result ≡ s i j = rw c.loop-i.i-is at c.has.ensures in
    rw (c.loop-i.i-is, next) (record {
      from = step.0;
      to = step.1;
      raster = elim c.if-has.branch [
        | then-has w ↦ ap (λ f. f.raster) w.self-is ∙ (w.set.ensures.raster ∙ inv.raster)
        | else-has w ↦ ap (λ f. f.raster) w.self-is ∙ inv.raster
      ];
      filled = λ k m. elim c.if-has.branch [
        | then-has w ↦ ap (λ q. is_filled q k m) w.self-is ∙ column_marked o b (is_filled w.set.new.self) s p.start i j inv.from (sym has ∙ w.if-has.true) inv.filled (rw c.loop-i.i-is at w.set.ensures.filled) k m
        | else-has w ↦ ap (λ q. is_filled q k m) w.self-is ∙ column_passed o b s p.start i j inv.from (sym has ∙ w.if-has.false) inv.filled k m
      ];
    })

pub returns : goal.returns
returns c =
    let p = c.args.columns.now in
    let right : FitsSigned w64 p.end = search rules in
    let inv = rw (c.loop-i.i-is, read_is c.args.j c.ranges.j) at c.loop-i.invariant in
    let past = not_lt c.loop-i.i p.end (rw (c.loop-i.i-is, read_is p.end right) at c.loop-i-test.false) in
    record { raster = inv.raster; filled = row_ends (is_filled c.args.self.now) (is_filled c.loop-i.self) (is_marked c.args.marks.now) p.start p.end c.loop-i.i c.args.j inv.from inv.to past inv.filled }
