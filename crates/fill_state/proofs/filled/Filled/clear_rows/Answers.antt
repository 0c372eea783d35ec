use Rattle.std.proofs.Common.{◌≡◌, refl, ◌∙◌, pos, ◌+ℤ◌}
use Rattle.std.proofs.lemmas.Bool.{and_from}
use Rattle.fill_base.proofs.Between.{is_between_true}
use Rattle.fill_base.proofs.Signed.{read, read_is, is_lt}
use Rattle.fill_state.specs.Filling.{is_filled}
use Rattle.fill_job.proofs.Marking.{next_within, first_within, next_fits, not_lt}
use Rattle.fill_state.proofs.ClearRows.{rows_begin, row_cleared, rows_end}
use Rattle.fill_state.proofs.filled.Filled.clear_rows.Goals as goal

pub loop-j-init : goal.loop-j-init
loop-j-init c =
    let at = first_within c.args.bottom c.args.top in
    rw (read_is c.args.bottom c.ranges.bottom, read_is c.args.top c.ranges.top) (record {
      from = at.0;
      to = at.1;
      raster = refl;
      filled = λ k m. rows_begin (is_filled c.args.self.now) (read c.args.left) (read c.args.right) c.args.bottom k m;
    })

pub clear_row-requires : goal.clear_row-requires
clear_row-requires c =
    let from = rw (c.loop-j.j-is, read_is c.args.bottom c.ranges.bottom) at c.loop-j.invariant.from in
    let lt = is_lt c.loop-j.j c.args.top (rw (c.loop-j.j-is, read_is c.args.top c.ranges.top) at c.loop-j-test.true) in
    rw (c.loop-j.j-is, read_is c.args.left c.ranges.left, read_is c.args.right c.ranges.right, c.loop-j.invariant.raster)
    (λ i inside. c.requires i c.loop-j.j (and_from _ _ inside (is_between_true c.args.bottom c.args.top c.loop-j.j from lt)))

pub loop-j-preserved : goal.loop-j-preserved
loop-j-preserved c =
    let j = c.loop-j.j in
    let inv = rw (c.loop-j.j-is, read_is c.args.bottom c.ranges.bottom, read_is c.args.top c.ranges.top) at c.loop-j.invariant in
    let lt = is_lt j c.args.top (rw (c.loop-j.j-is, read_is c.args.top c.ranges.top) at c.loop-j-test.true) in
    let step = next_within c.args.bottom c.args.top j inv.from lt in
    let next : read (j +ℤ pos 1) ≡ j +ℤ pos 1 = read_is (j +ℤ pos 1) (next_fits c.args.bottom c.args.top j c.ranges.bottom c.ranges.top inv.from lt) in
    rw (c.loop-j.j-is, read_is c.args.bottom c.ranges.bottom, read_is c.args.top c.ranges.top, next) (record {
      from = step.0;
      to = step.1;
      raster = c.clear_row.ensures.raster ∙ inv.raster;
      filled = row_cleared (is_filled c.args.self.now) (is_filled c.loop-j.self) (is_filled c.clear_row.new.self) (read c.args.left) (read c.args.right) c.args.bottom j inv.from inv.filled (rw c.loop-j.j-is at c.clear_row.ensures.filled);
    })

pub returns : goal.returns
returns c =
    let inv = rw (c.loop-j.j-is, read_is c.args.left c.ranges.left, read_is c.args.right c.ranges.right, read_is c.args.bottom c.ranges.bottom, read_is c.args.top c.ranges.top) at c.loop-j.invariant in
    let past = not_lt c.loop-j.j c.args.top (rw (c.loop-j.j-is, read_is c.args.top c.ranges.top) at c.loop-j-test.false) in
    record { raster = inv.raster; filled = rows_end (is_filled c.args.self.now) (is_filled c.loop-j.self) c.args.left c.args.right c.args.bottom c.args.top c.loop-j.j inv.from inv.to past inv.filled }
