use Rattle.std.proofs.Common.{◌≡◌, ◌^◌, ◌≤◌, ℤ, length, take, All}
use Rattle.std.specs.List.{flat_map}
use Rattle.std.specs.Vec.{vec_items}
use Rattle.fill_region.specs.Squares.{covered}
use Rattle.fill_measure.specs.steps.Chunks.{covered_by_chunks}
use Rattle.fill_measure.proofs.lists.chunks_of.Given as goal

abbrev pub invariant-loop-list : goal.invariant-loop-list
invariant-loop-list l = record {
  few : All (λ chunk. length chunk.now ≤ 2 ^ 32) l.chunks.items;
  whole : (x y : ℤ) → covered_by_chunks l.chunks.items x y ≡ covered (flat_map vec_items (take l.list-index l.lists)) x y;
}
