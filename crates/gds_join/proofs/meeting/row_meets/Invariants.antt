-- No place of the columns so far is in both.
use Rattle.std.proofs.Common.{◌≤ℤ◌, ◌&&◌}
use Rattle.std.specs.Int.{int_max}
use Rattle.fill_state.specs.Filling.{is_filled}
use Rattle.gds_join.proofs.NoneBetween.{NoneOf}
use Rattle.gds_join.proofs.meeting.row_meets.Given as goal

abbrev pub invariant-loop-i : goal.invariant-loop-i
invariant-loop-i l = record {
  from : l.left ≤ℤ l.i;
  to : l.i ≤ℤ int_max l.left l.right;
  none : NoneOf (λ i. is_filled l.fill i l.j && is_filled l.part i l.j) l.left l.i;
}
