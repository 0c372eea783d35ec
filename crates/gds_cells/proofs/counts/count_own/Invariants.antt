use Rattle.std.proofs.Common.{take, length}
use Rattle.std.specs.List.{flat_map}
use Rattle.std.specs.Vec.{vec_items}
use Rattle.gds_cells.specs.steps.Counting.{IsCapped}
use Rattle.gds_cells.proofs.counts.count_own.Given as goal

abbrev pub invariant-chunks : goal.invariant-chunks
invariant-chunks l = IsCapped (length (flat_map vec_items (take l.chunk-index l.chunks))) l.total
