use Rattle.std.proofs.Common.{ℕ, ◌≤◌, arith}
use Rattle.fill_sums.specs.steps.Shapes.{squares_of}
use Rattle.fill_sums.proofs.Windowed.{moved_both}
use Rattle.fill_sums.proofs.moving.move_row.Goals as goal

pub returns : goal.returns
returns c =
    let alike = c.alike_in-alike.ensures in
    let p = squares_of c.args.shape in let g = c.args.windows.now in
    let left = c.args.left in let from = c.alike_in-alike.result.from in let to = c.alike_in-alike.result.to in
    moved_both left to c.args.right c.args.b c.args.way p g _ _ _ (far left from to alike.from alike.ordered) alike.to
    (moved_both left from to c.args.b c.args.way p g _ _ _ alike.from alike.ordered c.move_each.ensures c.move_alike.ensures) c.move_each-2.ensures
  where
    far : (a b d : ℕ) → a ≤ b → b ≤ d → a ≤ d
    far a b d h k = omega (arith, h, k)
