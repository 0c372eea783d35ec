-- The heights of the rows from `j` on are listed, and those of row `j` are at hand.
use Rattle.std.proofs.Common.{◌≡◌, ◌≤ℤ◌}
use Rattle.fill_base.specs.Counts.{span_len}
use Rattle.fill_raster.specs.Axes.{first, past}
use Rattle.fill_stacks.specs.Counting.{heights_at}
use Rattle.gds_out.specs.Strips.{marked_in, sheet_raster}
use Rattle.gds_out.specs.steps.Rows.{heights_down}
use Rattle.gds_out.proofs.rows.stack_heights.Given as goal

abbrev pub invariant-loop-j : goal.invariant-loop-j
invariant-loop-j l = record {
  from : first l.sheet.up ≤ℤ l.j;
  to : l.j ≤ℤ past l.sheet.up;
  above : l.above.items ≡ heights_at (marked_in l.sheet.strips.now) (sheet_raster l.sheet) l.j;
  list : l.list.items ≡ heights_down (marked_in l.sheet.strips.now) (sheet_raster l.sheet) l.j (span_len l.j (past l.sheet.up));
}

abbrev pub decreases-loop-j : goal.decreases-loop-j
decreases-loop-j l = span_len (first l.sheet.up) l.j
