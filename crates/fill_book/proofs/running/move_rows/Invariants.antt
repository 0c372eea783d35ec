-- The boxes of the rows so far.
use Rattle.std.proofs.Common.{◌≡◌, ◌≤ℤ◌}
use Rattle.fill_sums.specs.Numbers.{IsMovedBy}
use Rattle.fill_book.specs.steps.Following.{is_moved, taken_of_rows}
use Rattle.fill_book.proofs.running.move_rows.Given as goal

abbrev pub invariant-loop-j : goal.invariant-loop-j
invariant-loop-j l = record {
  from : l.places.rows.start ≤ℤ l.j;
  to : l.j ≤ℤ l.places.rows.end;
  windows : l.sums.windows ≡ l.fn.sums.windows;
  drawn : l.sums.drawn ≡ l.fn.sums.drawn;
  total : IsMovedBy l.boxes.way (taken_of_rows l.boxes.raster (is_moved l.boxes.moved) l.fn.sums.windows l.places.columns.start l.places.columns.end l.places.rows.start l.j) l.fn.sums.windows l.fn.sums.total l.sums.total;
}
