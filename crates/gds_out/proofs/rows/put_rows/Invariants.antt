-- The stacks that begin in the rows so far are written; what is left are the heights of the rows to come.
use Rattle.std.proofs.Common.{◌≡◌, ◌≤ℤ◌, ◌-ℤ◌, pos}
use Rattle.std.specs.List.{flat_map}
use Rattle.fill_base.specs.Counts.{span_len}
use Rattle.fill_raster.specs.Axes.{first, past}
use Rattle.fill_text.specs.ValuesOfRules.{values_of}
use Rattle.fill_stacks.specs.Counting.{levels_at}
use Rattle.fill_stacks.specs.Runs.{numbers_from}
use Rattle.fill_stacks.specs.Stacks.{row_stacks}
use Rattle.gds_out.specs.FillText.{stack_records}
use Rattle.gds_out.specs.Strips.{marked_in, sheet_raster}
use Rattle.gds_out.specs.steps.Rows.{heights_down}
use Rattle.gds_out.specs.steps.Writing.{Adds}
use Rattle.gds_out.proofs.rows.put_rows.Given as goal

abbrev pub invariant-loop-j : goal.invariant-loop-j
invariant-loop-j l = let r = sheet_raster l.sheet in let filled = marked_in l.sheet.strips.now in record {
  from : first r.up ≤ℤ l.j;
  to : l.j ≤ℤ past r.up;
  rows : Adds l.fn.writer l.writer (flat_map (λ k. flat_map (stack_records (values_of l.sheet.rules.now).fill_cell r) (row_stacks filled r k)) (numbers_from (first r.up) (span_len (first r.up) l.j)));
  left : l.left.items ≡ heights_down filled r l.j (span_len l.j (past r.up));
  below : l.below.items ≡ levels_at filled r (l.j -ℤ pos 1);
}
