-- The places of the columns so far are empty.
use Rattle.std.proofs.Common.{◌≡◌, ◌&&◌, not, ℤ, ◌≤ℤ◌}
use Rattle.std.specs.Int.{int_max}
use Rattle.std.specs.Ordering.{int_eq}
use Rattle.fill_base.specs.Counts.{is_between}
use Rattle.fill_state.specs.Filling.{is_filled}
use Rattle.fill_state.proofs.filled.Filled.clear_row.Given as goal

abbrev pub invariant-loop-i : goal.invariant-loop-i
invariant-loop-i l = record {
  from : l.left ≤ℤ l.i;
  to : l.i ≤ℤ int_max l.left l.right;
  raster : l.self.raster ≡ l.fn.self.raster;
  filled : (k m : ℤ) → is_filled l.self k m ≡ (is_filled l.fn.self k m && not (is_between l.left l.i k && int_eq m l.j));
}
