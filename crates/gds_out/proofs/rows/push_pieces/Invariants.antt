-- The pieces so far are appended.
use Rattle.std.proofs.Common.{◌≡◌, ◌++◌, map}
use Rattle.std.specs.List.{range_with_len}
use Rattle.fill_stacks.specs.Counting.{as_piece}
use Rattle.fill_stacks.specs.Runs.{run, piece}
use Rattle.gds_out.proofs.rows.push_pieces.Given as goal

abbrev pub invariant-loop-k : goal.invariant-loop-k
invariant-loop-k l = l.list.items ≡ l.fn.list.items ++ map as_piece (map (piece (run l.start l.count)) (range_with_len 0 l.k))
