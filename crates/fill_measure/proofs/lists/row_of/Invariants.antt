use Rattle.std.proofs.Common.{◌≡◌, ℤ, take}
use Rattle.fill_region.specs.Squares.{covered}
use Rattle.fill_measure.specs.steps.Chunks.{listed_by_chunks}
use Rattle.fill_measure.proofs.lists.row_of.Given as goal

abbrev pub invariant-loop-chunk : goal.invariant-loop-chunk
invariant-loop-chunk l = (x y : ℤ) → covered l.row.items x y ≡ listed_by_chunks l.j (take l.chunk-index l.chunks) x y
