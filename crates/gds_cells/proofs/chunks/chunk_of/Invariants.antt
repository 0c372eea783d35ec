use Rattle.std.proofs.Common.{◌≡◌, List, [], map, take}
use Rattle.gds_grammar.specs.Values.{shape_of}
use Rattle.gds_cells.specs.Designs.{Entry, AreFine}
use Rattle.gds_cells.specs.steps.Built.{Leads, IsChunk}
use Rattle.gds_cells.proofs.chunks.chunk_of.Given as goal

abbrev pub invariant-elements : goal.invariant-elements
invariant-elements l = record {
  empty : l.rects.items ≡ [];
  fine : AreFine l.layers (take l.element-index (map shape_of l.elements));
  built : (entries : List Entry) → Leads l.to entries (map shape_of l.elements) → IsChunk entries l.layers (take l.element-index (map shape_of l.elements)) l.chunk;
}
