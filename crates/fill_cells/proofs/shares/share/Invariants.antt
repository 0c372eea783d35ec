use Rattle.std.proofs.Common.{◌≤◌}
use Rattle.std.specs.Global.{Vec}
use Rattle.fill_base.specs.declared.rect.Rect.{Rect}
use Rattle.fill_region.specs.Squares.{covered}
use Rattle.fill_cells.specs.steps.Parts.{cell_squares}
use Rattle.fill_cells.proofs.Sharing.{AreMoreTo}
use Rattle.fill_cells.proofs.shares.share.Given as goal

abbrev pub invariant-loop-k : goal.invariant-loop-k
invariant-loop-k l = (l.initial.k ≤ l.k) × AreMoreTo (Vec Rect) (λ v. covered v.items) (cell_squares l.row) l.cuts l.rect l.initial.k l.k l.fn.lists l.lists
