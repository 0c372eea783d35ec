-- The places of the rows so far are empty.
use Rattle.std.proofs.Common.{◌≡◌, ◌&&◌, not, ℤ, ◌≤ℤ◌}
use Rattle.std.specs.Int.{int_max}
use Rattle.fill_base.specs.Counts.{is_between}
use Rattle.fill_state.specs.Filling.{is_filled}
use Rattle.fill_state.proofs.filled.Filled.clear_rows.Given as goal

abbrev pub invariant-loop-j : goal.invariant-loop-j
invariant-loop-j l = record {
  from : l.bottom ≤ℤ l.j;
  to : l.j ≤ℤ int_max l.bottom l.top;
  raster : l.self.raster ≡ l.fn.self.raster;
  filled : (k m : ℤ) → is_filled l.self k m ≡ (is_filled l.fn.self k m && not (is_between l.left l.right k && is_between l.bottom l.j m));
}
