use Rattle.std.proofs.Common.{◌≡◌, [], All, length}
use Rattle.fill_cells.proofs.shares.empty_all.Given as goal

abbrev pub invariant-loop : goal.invariant-loop
invariant-loop g l = (length l.lists.items ≡ l.counter) × All (λ list. list.items ≡ []) l.lists.items
