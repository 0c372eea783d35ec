-- No place passed so far is as asked.
use Rattle.std.proofs.Common.{◌≡◌, ℤ, ◌≤ℤ◌, ◌<ℤ◌}
use Rattle.std.specs.Prelude.{not}
use Rattle.fill_base.specs.Counts.{span_len}
use Rattle.fill_raster.specs.Axes.{past}
use Rattle.gds_out.specs.Places.{marked_by}
use Rattle.gds_out.proofs.columns.column_from.Given as goal

abbrev pub invariant-loop-i : goal.invariant-loop-i
invariant-loop-i l = record {
  from : l.place.i ≤ℤ l.i;
  to : l.i ≤ℤ past l.raster.across;
  before : (k : ℤ) → l.place.i ≤ℤ k → k <ℤ l.i → marked_by l.marks k l.place.j ≡ not l.marked;
}

abbrev pub decreases-loop-i : goal.decreases-loop-i
decreases-loop-i l = span_len l.i (past l.raster.across)
