use Rattle.std.proofs.Common.{◌≡◌, map, take}
use Rattle.fill_stacks.specs.Counting.{counted, found, next_height}
use Rattle.fill_stacks.proofs.pieces.heights.Given as goal

abbrev pub invariant-loop-piece : goal.invariant-loop-piece
invariant-loop-piece l = l.list.items ≡ map (λ p. counted p (next_height (found l.above p))) (take l.piece-index l.row)
