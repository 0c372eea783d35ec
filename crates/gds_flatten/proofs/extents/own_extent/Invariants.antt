use Rattle.std.proofs.Common.{map, take}
use Rattle.std.specs.List.{flat_map}
use Rattle.std.specs.Vec.{vec_items}
use Rattle.gds_cells.specs.Copies.{own_copy}
use Rattle.gds_cells.specs.steps.Built.{own_of}
use Rattle.gds_flatten.specs.steps.Framing.{IsFineIf, IsRight}
use Rattle.gds_flatten.proofs.extents.own_extent.Given as goal

abbrev pub invariant-chunks : goal.invariant-chunks
invariant-chunks l = record {
  fine : IsFineIf l.extent;
  right : IsRight (map own_copy (own_of (flat_map vec_items (take l.chunk-index l.chunks)))) l.extent;
}
