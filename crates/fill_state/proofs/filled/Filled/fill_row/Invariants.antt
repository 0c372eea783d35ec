-- The marked places of the columns so far are filled too.
use Rattle.std.proofs.Common.{◌≡◌, ◌&&◌, ◌||◌, ℤ, ◌≤ℤ◌}
use Rattle.std.specs.Int.{int_max}
use Rattle.std.specs.Ordering.{int_eq}
use Rattle.fill_base.specs.Counts.{is_between}
use Rattle.fill_raster.specs.Marks.{is_marked}
use Rattle.fill_state.specs.Filling.{is_filled}
use Rattle.fill_state.proofs.filled.Filled.fill_row.Given as goal

abbrev pub invariant-loop-i : goal.invariant-loop-i
invariant-loop-i l = record {
  from : l.columns.start ≤ℤ l.i;
  to : l.i ≤ℤ int_max l.columns.start l.columns.end;
  raster : l.self.raster ≡ l.fn.self.raster;
  filled : (k m : ℤ) → is_filled l.self k m ≡ (is_filled l.fn.self k m || (int_eq m l.j && (is_between l.columns.start l.i k && is_marked l.marks k m)));
}
