use Rattle.std.proofs.Common.{ap, sym, pos, to_z, w64}
use Rattle.std.proofs.lemmas.Bool.{and_from}
use Rattle.fill_base.proofs.Between.{is_between_true}
use Rattle.fill_base.proofs.Signed.{read, read_is, is_lt}
use Rattle.fill_state.specs.Filling.{left_by}
use Rattle.fill_state.specs.steps.Taken.{taken_by_row}
use Rattle.fill_state.proofs.BoxSums.{Added, added, rows_few, same_le, sum_first}
use Rattle.fill_state.proofs.filled.Filled.taken_by_rows.Goals as goal

pub loop-j-init : goal.loop-j-init
loop-j-init c = record {
  from = same_le (read c.args.bottom);
  to = rw (read_is c.args.bottom c.ranges.bottom, read_is c.args.top c.ranges.top) c.requires.rows;
  area = ap pos (sym (sum_first (λ j. taken_by_row c.args.self.now.raster (left_by c.args.self.now c.args.out.now) c.args.window.now (read c.args.left) (read c.args.right) j) (read c.args.bottom)));
}

pub taken_by_row-area-requires-clause-places : goal.taken_by_row-area-requires-clause-places
taken_by_row-area-requires-clause-places c =
    let from = rw (read_is c.args.bottom c.ranges.bottom) at c.loop-j.invariant.from in
    let lt = is_lt (to_z w64 c.loop-j.j-bits) c.args.top (rw (read_is c.args.top c.ranges.top) at c.loop-j-test.true) in
    rw (read_is c.args.left c.ranges.left, read_is c.args.right c.ranges.right)
    (λ i inside. c.requires.places i (to_z w64 c.loop-j.j-bits) (and_from _ _ inside (is_between_true c.args.bottom c.args.top (to_z w64 c.loop-j.j-bits) from lt)))

turn : (c : goal.After-taken_by_row-area) → Added (λ j. taken_by_row c.args.self.now.raster (left_by c.args.self.now c.args.out.now) c.args.window.now (read c.args.left) (read c.args.right) j) (read c.args.bottom) (read c.args.top) (to_z w64 c.loop-j.j-bits) (to_z w64 c.loop-j.area-bits) c.taken_by_row-area.result
turn c = added _ _ _ _ _ _ (rw (read_is c.args.bottom c.ranges.bottom) c.ranges.bottom) (rw (read_is c.args.top c.ranges.top) c.ranges.top) c.loop-j.invariant.from c.loop-j-test.true c.loop-j.invariant.area c.taken_by_row-area.ensures
    (λ k. rows_few c.args.self.now.raster (left_by c.args.self.now c.args.out.now) c.args.window.now (read c.args.left) (read c.args.right) (read c.args.bottom) k c.requires.apart)

pub overflow_add-area : goal.overflow_add-area
overflow_add-area c = (turn c).fits

pub loop-j-preserved : goal.loop-j-preserved
loop-j-preserved c = let t = turn c in record { from = t.from; to = t.to; area = t.sum }
