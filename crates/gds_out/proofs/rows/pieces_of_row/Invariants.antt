-- What is listed and what is left make the row.
use Rattle.std.proofs.Common.{◌≡◌, ◌++◌, ◌≤ℤ◌, map}
use Rattle.std.specs.List.{flat_map, filter}
use Rattle.fill_base.specs.Counts.{span_len}
use Rattle.fill_raster.specs.Axes.{first, past}
use Rattle.fill_stacks.specs.Counting.{as_piece}
use Rattle.fill_stacks.specs.Places.{row_pieces}
use Rattle.fill_stacks.specs.Runs.{runs, pieces, numbers_from}
use Rattle.gds_out.specs.Places.{marked_by}
use Rattle.gds_out.proofs.rows.pieces_of_row.Given as goal

abbrev pub invariant-loop-i : goal.invariant-loop-i
invariant-loop-i l = record {
  from : first l.raster.across ≤ℤ l.i;
  to : l.i ≤ℤ past l.raster.across;
  rest : l.list.items ++ map as_piece (flat_map pieces (runs (filter (λ k. marked_by l.marks k l.j) (numbers_from l.i (span_len l.i (past l.raster.across))))))
      ≡ map as_piece (row_pieces (marked_by l.marks) l.raster l.j);
}

abbrev pub decreases-loop-i : goal.decreases-loop-i
decreases-loop-i l = span_len l.i (past l.raster.across)
