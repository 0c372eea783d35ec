use Rattle.std.proofs.Common.{◌&&◌, ◌≤◌}
use Rattle.fill_sums.specs.Numbers.{in_range}
use Rattle.fill_sums.specs.steps.Moving.{IsMovedAt}
use Rattle.fill_sums.specs.steps.Shapes.{squares_of}
use Rattle.fill_sums.proofs.moving.move_rows.Given as goal

abbrev pub invariant-loop-b : goal.invariant-loop-b
invariant-loop-b l = (l.bottom ≤ l.b) × (l.b ≤ l.top) × IsMovedAt (λ c d. in_range l.left l.right c && in_range l.bottom l.b d) l.way (squares_of l.shape) l.windows l.fn.numbers l.numbers
