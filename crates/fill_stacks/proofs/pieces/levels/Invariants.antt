use Rattle.std.proofs.Common.{◌≡◌, map, take}
use Rattle.fill_stacks.specs.Counting.{counted, found, next_level}
use Rattle.fill_stacks.proofs.pieces.levels.Given as goal

abbrev pub invariant-loop-piece : goal.invariant-loop-piece
invariant-loop-piece l = l.list.items ≡ map (λ p. counted p (next_level (found l.below p))) (take l.piece-index l.row)
