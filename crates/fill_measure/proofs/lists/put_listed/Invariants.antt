use Rattle.std.proofs.Common.{◌≡◌, ◌||◌, ℤ, take}
use Rattle.fill_region.specs.Squares.{covered}
use Rattle.fill_cells.specs.Mesh.{covered_at}
use Rattle.fill_measure.proofs.lists.put_listed.Given as goal

abbrev pub invariant-loop-place : goal.invariant-loop-place
invariant-loop-place l = (x y : ℤ) → covered l.row.items x y ≡ (covered l.fn.row.items x y || covered_at l.rects (take l.place-index l.places) x y)
