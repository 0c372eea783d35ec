use Rattle.std.proofs.Common.{◌≡◌, refl, ◌∙◌, pos, ◌+ℤ◌}
use Rattle.fill_base.proofs.Between.{is_between_true}
use Rattle.fill_base.proofs.Signed.{read, read_is, is_lt}
use Rattle.fill_state.specs.Filling.{is_filled}
use Rattle.fill_job.proofs.Marking.{next_within, first_within, next_fits, not_lt}
use Rattle.fill_state.proofs.ClearRows.{row_begins, column_cleared, row_ends}
use Rattle.fill_state.proofs.filled.Filled.clear_row.Goals as goal

pub loop-i-init : goal.loop-i-init
loop-i-init c =
    let at = first_within c.args.left c.args.right in
    rw (read_is c.args.left c.ranges.left, read_is c.args.right c.ranges.right) (record {
      from = at.0;
      to = at.1;
      raster = refl;
      filled = λ k m. row_begins (is_filled c.args.self.now) c.args.left (read c.args.j) k m;
    })

pub clear-requires : goal.clear-requires
clear-requires c =
    let from = rw (c.loop-i.i-is, read_is c.args.left c.ranges.left) at c.loop-i.invariant.from in
    let lt = is_lt c.loop-i.i c.args.right (rw (c.loop-i.i-is, read_is c.args.right c.ranges.right) at c.loop-i-test.true) in
    rw (c.loop-i.i-is, read_is c.args.j c.ranges.j, c.loop-i.invariant.raster) (c.requires c.loop-i.i (is_between_true c.args.left c.args.right c.loop-i.i from lt))

pub loop-i-preserved : goal.loop-i-preserved
loop-i-preserved c =
    let i = c.loop-i.i in let j = read c.args.j in
    let inv = rw (c.loop-i.i-is, read_is c.args.left c.ranges.left, read_is c.args.right c.ranges.right) at c.loop-i.invariant in
    let lt = is_lt i c.args.right (rw (c.loop-i.i-is, read_is c.args.right c.ranges.right) at c.loop-i-test.true) in
    let step = next_within c.args.left c.args.right i inv.from lt in
    let next : read (i +ℤ pos 1) ≡ i +ℤ pos 1 = read_is (i +ℤ pos 1) (next_fits c.args.left c.args.right i c.ranges.left c.ranges.right inv.from lt) in
    rw (c.loop-i.i-is, read_is c.args.left c.ranges.left, read_is c.args.right c.ranges.right, next) (record {
      from = step.0;
      to = step.1;
      raster = c.clear.ensures.raster ∙ inv.raster;
      filled = column_cleared (is_filled c.args.self.now) (is_filled c.loop-i.self) (is_filled c.clear.new.self) c.args.left i j inv.from inv.filled (rw c.loop-i.i-is at c.clear.ensures.filled);
    })

pub returns : goal.returns
returns c =
    let inv = rw (c.loop-i.i-is, read_is c.args.left c.ranges.left, read_is c.args.right c.ranges.right, read_is c.args.j c.ranges.j) at c.loop-i.invariant in
    let past = not_lt c.loop-i.i c.args.right (rw (c.loop-i.i-is, read_is c.args.right c.ranges.right) at c.loop-i-test.false) in
    record { raster = inv.raster; filled = row_ends (is_filled c.args.self.now) (is_filled c.loop-i.self) c.args.left c.args.right c.loop-i.i c.args.j inv.from inv.to past inv.filled }
