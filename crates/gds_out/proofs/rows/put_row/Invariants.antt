-- The stacks of the pieces so far are written.
use Rattle.std.proofs.Common.{take}
use Rattle.std.specs.List.{flat_map}
use Rattle.gds_out.specs.Strips.{sheet_raster}
use Rattle.fill_text.specs.ValuesOfRules.{values_of}
use Rattle.gds_out.specs.FillText.{stack_records}
use Rattle.gds_out.specs.steps.Rows.{begun}
use Rattle.gds_out.specs.steps.Writing.{Adds}
use Rattle.gds_out.proofs.rows.put_row.Given as goal

abbrev pub invariant-loop-k : goal.invariant-loop-k
invariant-loop-k l = Adds l.fn.writer l.writer (flat_map (stack_records (values_of l.sheet.rules.now).fill_cell (sheet_raster l.sheet)) (begun l.j (take l.k l.levels) (take l.k l.heights)))
