use Rattle.std.proofs.Common.{◌≡◌, [], All, length, take}
use Rattle.fill_cells.proofs.shares.clear_each.Given as goal

abbrev pub invariant-loop-k : goal.invariant-loop-k
invariant-loop-k g l = (length l.lists ≡ length l.fn.lists) × All (λ list. list.items ≡ []) (take l.k l.lists)
