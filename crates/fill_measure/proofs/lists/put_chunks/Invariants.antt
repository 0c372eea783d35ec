use Rattle.std.proofs.Common.{◌≡◌, ◌^◌, ◌<◌, ◌≤◌, ◌||◌, ℤ, length, All}
use Rattle.std.specs.Slice.Iter.{chunks_rest, chunks_size}
use Rattle.fill_region.specs.Squares.{covered}
use Rattle.fill_measure.specs.steps.Chunks.{covered_by_chunks}
use Rattle.fill_measure.proofs.lists.put_chunks.Given as goal

abbrev pub invariant-loop-chunk : goal.invariant-loop-chunk
invariant-loop-chunk l = record {
  some : 0 < chunks_size l.chunk-iterator;
  most : chunks_size l.chunk-iterator ≤ 2 ^ 32;
  few : All (λ chunk. length chunk.now ≤ 2 ^ 32) l.chunks.items;
  whole : (x y : ℤ) → (covered_by_chunks l.chunks.items x y || covered (chunks_rest l.chunk-iterator) x y) ≡ (covered_by_chunks l.fn.chunks.items x y || covered l.list x y);
}
