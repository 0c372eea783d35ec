-- No place of the rows so far is in both.
use Rattle.std.proofs.Common.{◌≡◌, ◌≤ℤ◌, ◌&&◌, ℤ, true, false}
use Rattle.fill_base.specs.Counts.{is_between}
use Rattle.fill_raster.specs.Axes.{first, past}
use Rattle.fill_state.specs.Filling.{is_filled}
use Rattle.gds_join.specs.Fills.{filled_in}
use Rattle.gds_join.proofs.meeting.meets.Given as goal

abbrev pub invariant-loop-j : goal.invariant-loop-j
invariant-loop-j l = record {
  from : first l.fill.raster.up ≤ℤ l.j;
  to : l.j ≤ℤ past l.fill.raster.up;
  none : (i j : ℤ) → is_between (first l.fill.raster.across) (past l.fill.raster.across) i ≡ true → is_between (first l.fill.raster.up) l.j j ≡ true → (is_filled l.fill i j && filled_in l.parts i j) ≡ false;
}
