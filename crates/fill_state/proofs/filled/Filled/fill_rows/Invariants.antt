-- The marked places of the rows so far are filled too.
use Rattle.std.proofs.Common.{◌≡◌, ◌&&◌, ◌||◌, ℤ, ◌≤ℤ◌}
use Rattle.std.specs.Int.{int_max}
use Rattle.fill_base.specs.Counts.{is_between}
use Rattle.fill_raster.specs.Marks.{is_marked}
use Rattle.fill_state.specs.Filling.{is_filled}
use Rattle.fill_state.proofs.filled.Filled.fill_rows.Given as goal

abbrev pub invariant-loop-j : goal.invariant-loop-j
invariant-loop-j l = record {
  from : l.places.rows.start ≤ℤ l.j;
  to : l.j ≤ℤ int_max l.places.rows.start l.places.rows.end;
  raster : l.self.raster ≡ l.fn.self.raster;
  filled : (k m : ℤ) → is_filled l.self k m ≡ (is_filled l.fn.self k m || (is_between l.places.rows.start l.j m && (is_between l.places.columns.start l.places.columns.end k && is_marked l.marks k m)));
}
