use Rattle.std.proofs.Common.{◌≡◌, ℤ, Bool}
use Rattle.fill_measure.specs.Sums.{AreSumsOf, areas_from}
use Rattle.fill_measure.proofs.sums.WindowSums.areas_from.Given as goal

abbrev pub invariant-loop-i : goal.invariant-loop-i
invariant-loop-i l = (p : ℤ → ℤ → Bool) → AreSumsOf p l.self → l.areas.items ≡ areas_from p l.self.windows l.from l.i
