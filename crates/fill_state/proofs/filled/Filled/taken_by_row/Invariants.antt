-- The boxes of the columns so far.
use Rattle.std.proofs.Common.{◌≡◌, pos, ◌≤ℤ◌}
use Rattle.fill_state.specs.Filling.{left_by}
use Rattle.fill_state.specs.steps.Taken.{taken_by_row}
use Rattle.fill_state.proofs.filled.Filled.taken_by_row.Given as goal

abbrev pub invariant-loop-i : goal.invariant-loop-i
invariant-loop-i l = record {
  from : l.left ≤ℤ l.i;
  to : l.i ≤ℤ l.right;
  area : l.area ≡ pos (taken_by_row l.self.raster (left_by l.self l.out) l.window l.left l.i l.j);
}
