use Rattle.std.proofs.Common.{ℕ, take}
use Rattle.std.specs.Global.{Vec}
use Rattle.fill_region.specs.Squares.{covered}
use Rattle.fill_cells.specs.Mesh.{covered_at, row_squares, AreListsOf}
use Rattle.fill_cells.proofs.rows.by_row.Given as goal

abbrev pub invariant-loop-place : goal.invariant-loop-place
invariant-loop-place l = AreListsOf (Vec ℕ) (λ v. covered_at l.rects v.items) row_squares l.up (covered (take l.place l.rects)) l.lists.items
