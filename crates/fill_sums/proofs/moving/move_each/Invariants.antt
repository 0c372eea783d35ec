use Rattle.std.proofs.Common.{◌&&◌, ◌==◌, ◌≤◌}
use Rattle.fill_sums.specs.Numbers.{in_range}
use Rattle.fill_sums.specs.steps.Moving.{IsMovedAt}
use Rattle.fill_sums.specs.steps.Shapes.{squares_of}
use Rattle.fill_sums.proofs.moving.move_each.Given as goal

abbrev pub invariant-loop-a : goal.invariant-loop-a
invariant-loop-a l = (l.left ≤ l.a) × (l.a ≤ l.right) × IsMovedAt (λ c d. in_range l.left l.a c && (d == l.b)) l.way (squares_of l.shape) l.windows l.fn.numbers l.numbers
