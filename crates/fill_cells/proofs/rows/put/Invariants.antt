use Rattle.std.proofs.Common.{ℕ, ◌≤◌, get_or}
use Rattle.std.specs.Global.{Vec}
use Rattle.fill_base.specs.declared.rect.Rect.{Rect}
use Rattle.fill_cells.specs.Mesh.{covered_at, row_squares}
use Rattle.fill_cells.proofs.Sharing.{AreMoreTo}
use Rattle.fill_cells.proofs.rows.put.Given as goal

abbrev pub invariant-loop-k : goal.invariant-loop-k
invariant-loop-k l = (l.initial.k ≤ l.k) × ((d : Rect) → AreMoreTo (Vec ℕ) (λ v. covered_at l.rects v.items) row_squares l.up (get_or l.rects l.place d) l.initial.k l.k l.fn.lists l.lists)
