-- The boxes of the rows so far.
use Rattle.std.proofs.Common.{◌≡◌, pos, ◌≤ℤ◌}
use Rattle.fill_state.specs.Filling.{left_by}
use Rattle.fill_state.specs.steps.Taken.{taken_by_rows}
use Rattle.fill_state.proofs.filled.Filled.taken_by_rows.Given as goal

abbrev pub invariant-loop-j : goal.invariant-loop-j
invariant-loop-j l = record {
  from : l.bottom ≤ℤ l.j;
  to : l.j ≤ℤ l.top;
  area : l.area ≡ pos (taken_by_rows l.self.raster (left_by l.self l.out) l.window l.left l.right l.bottom l.j);
}
