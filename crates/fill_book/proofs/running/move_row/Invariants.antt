-- The boxes of the columns so far.
use Rattle.std.proofs.Common.{◌≡◌, ◌≤ℤ◌}
use Rattle.fill_sums.specs.Numbers.{IsMovedBy}
use Rattle.fill_book.specs.steps.Following.{is_moved, taken_of_row}
use Rattle.fill_book.proofs.running.move_row.Given as goal

abbrev pub invariant-loop-i : goal.invariant-loop-i
invariant-loop-i l = record {
  from : l.columns.start ≤ℤ l.i;
  to : l.i ≤ℤ l.columns.end;
  windows : l.sums.windows ≡ l.fn.sums.windows;
  drawn : l.sums.drawn ≡ l.fn.sums.drawn;
  total : IsMovedBy l.boxes.way (taken_of_row l.boxes.raster (is_moved l.boxes.moved) l.fn.sums.windows l.columns.start l.i l.j) l.fn.sums.windows l.fn.sums.total l.sums.total;
}
