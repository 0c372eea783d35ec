use Rattle.std.proofs.Common.{ap, sym, pos, to_z, w64}
use Rattle.fill_base.proofs.Between.{is_between_true}
use Rattle.fill_base.proofs.Signed.{read, read_is, is_lt}
use Rattle.fill_state.specs.Filling.{left_by}
use Rattle.fill_state.specs.steps.Taken.{taken_in}
use Rattle.fill_state.proofs.BoxSums.{Added, added, row_few, same_le, sum_first}
use Rattle.fill_state.proofs.filled.Filled.taken_by_row.Goals as goal

pub loop-i-init : goal.loop-i-init
loop-i-init c = record {
  from = same_le (read c.args.left);
  to = rw (read_is c.args.left c.ranges.left, read_is c.args.right c.ranges.right) c.requires.ordered;
  area = ap pos (sym (sum_first (λ i. taken_in c.args.self.now.raster (left_by c.args.self.now c.args.out.now) c.args.window.now i (read c.args.j)) (read c.args.left)));
}

pub taken-area-requires : goal.taken-area-requires
taken-area-requires c =
    let from = rw (read_is c.args.left c.ranges.left) at c.loop-i.invariant.from in
    let lt = is_lt (to_z w64 c.loop-i.i-bits) c.args.right (rw (read_is c.args.right c.ranges.right) at c.loop-i-test.true) in
    rw (read_is c.args.j c.ranges.j) (c.requires.places (to_z w64 c.loop-i.i-bits) (is_between_true c.args.left c.args.right (to_z w64 c.loop-i.i-bits) from lt))

turn : (c : goal.After-taken-area) → Added (λ i. taken_in c.args.self.now.raster (left_by c.args.self.now c.args.out.now) c.args.window.now i (read c.args.j)) (read c.args.left) (read c.args.right) (to_z w64 c.loop-i.i-bits) (to_z w64 c.loop-i.area-bits) c.taken-area.result
turn c = added _ _ _ _ _ _ (rw (read_is c.args.left c.ranges.left) c.ranges.left) (rw (read_is c.args.right c.ranges.right) c.ranges.right) c.loop-i.invariant.from c.loop-i-test.true c.loop-i.invariant.area c.taken-area.ensures
    (λ k. row_few c.args.self.now.raster (left_by c.args.self.now c.args.out.now) c.args.window.now (read c.args.left) k (read c.args.j) c.requires.apart)

pub overflow_add-area : goal.overflow_add-area
overflow_add-area c = (turn c).fits

pub loop-i-preserved : goal.loop-i-preserved
loop-i-preserved c = let t = turn c in record { from = t.from; to = t.to; area = t.sum }
