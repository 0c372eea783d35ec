use Rattle.std.proofs.Common.{◌≡◌, ℕ, ◌*◌, ◌++◌, List, length}
use Rattle.std.specs.Vec.Iter.{into_iter_items, into_iter_len}
use Rattle.fill_base.specs.declared.layer.Layer.{Layer}
use Rattle.gds_grammar.specs.Values.{Shape as Element}
use Rattle.gds_cells.specs.Designs.{Entry}
use Rattle.gds_cells.specs.steps.Built.{AreChunks}
use Rattle.gds_cells.proofs.Chunking.{AreJoined}
use Rattle.gds_cells.proofs.elements.joined.Given as goal

abbrev pub invariant-loop-chunk : goal.invariant-loop-chunk
invariant-loop-chunk l = record {
  parts : l.yielded ++ into_iter_items l.chunk-iterator ≡ l.fn.chunks.items;
  left : into_iter_len l.chunk-iterator ≡ length (into_iter_items l.chunk-iterator);
  joined : (entries : List Entry) (layers : List Layer) (size : ℕ) (elements : List Element) → AreChunks entries layers size elements l.fn.chunks.items
      → AreJoined entries layers (length l.yielded * size) elements l.shapes.items l.links.items;
}
