use Rattle.std.proofs.Common.{◌≡◌, ◌≤◌, ℕ, pos, length, get_or}
use Rattle.fill_sums.specs.steps.Moving.{IsRangeMoved}
use Rattle.fill_sums.proofs.moving.move_range.Given as goal

-- numbers before `k` have moved, those ahead are as they were
abbrev pub invariant-loop-k : goal.invariant-loop-k
invariant-loop-k l =
    (l.from ≤ l.k) × (l.k ≤ l.to) × (length l.numbers ≡ length l.fn.numbers) × ((j : ℕ) → l.k ≤ j → get_or l.numbers j (pos 0) ≡ get_or l.fn.numbers j (pos 0))
    × ((n : ℕ) → l.area ≡ pos n → IsRangeMoved l.from l.k l.way n l.fn.numbers l.numbers)
